use Rattle.photo_device.proofs.Staged.{shows_unstaged}
use Rattle.photo_device.proofs.device.Device.edit.Goals as goal

pub returns-clause-version : goal.returns-clause-version
returns-clause-version c = λ m shows. c.in_ok-make.ensures.version m (shows_unstaged _ _ m c.unstage.ensures shows)
