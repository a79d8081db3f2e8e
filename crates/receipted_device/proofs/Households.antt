-- What the law of households gives a pull, and the worked examples.
use Rattle.std.proofs.Common.{ap, refl}
use Rattle.photo_model.specs.Entry.{Entry}
use Rattle.receipted_device.specs.Laws.{CopiesMayBeTaken}
use Rattle.receipted_device.specs.Examples.{TheReceipts, TheSettling}

pub copies_may_be_taken : CopiesMayBeTaken
copies_may_be_taken d copy may = record {
  differ = may.differ;
  one = λ e g held copied same. ap (λ (x : Entry). x.picture) (may.one e g held copied same);
  made = λ p v above known by. (may.knowledge p v known).counted by;
  begun = λ p v above known. (may.knowledge p v known).begun;
}

pub the_receipts : TheReceipts
the_receipts = record { itself = refl; of_another_epoch = refl; of_another_picture = refl; of_another_version = refl }

pub the_settling : TheSettling
the_settling = record { receipted = refl; begun_since = refl; no_receipt = refl }
