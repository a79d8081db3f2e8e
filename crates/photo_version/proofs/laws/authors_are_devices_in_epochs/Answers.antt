use Rattle.photo_version.specs.Words.{device_back, epoch_back}
use Rattle.photo_version.proofs.AuthorLemmas.{parts_back, before_by_parts, next_parts}
use Rattle.photo_version.proofs.laws.authors_are_devices_in_epochs.Goals as goal

pub returns-clause-device : goal.returns-clause-device
returns-clause-device c = device_back

pub returns-clause-epoch : goal.returns-clause-epoch
returns-clause-epoch c = epoch_back

pub returns-clause-back : goal.returns-clause-back
returns-clause-back c = parts_back

pub returns-clause-order : goal.returns-clause-order
returns-clause-order c = before_by_parts

pub returns-clause-next : goal.returns-clause-next
returns-clause-next c = next_parts
