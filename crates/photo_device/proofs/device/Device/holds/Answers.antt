use Rattle.std.proofs.Common.{arith}
use Rattle.photo_device.proofs.Shown.{pictures_shown}
use Rattle.photo_device.proofs.device.Device.holds.Goals as goal

pub returns-then-has_picture-clause-shows : goal.returns-then-has_picture-clause-shows
returns-then-has_picture-clause-shows c = λ m shows. let shown = pictures_shown c.args.self.now m c.args.picture shows in let stored = c.has_picture.ensures in let is = c.if-has_picture.true in grind arith

pub returns-else-has_picture-clause-shows : goal.returns-else-has_picture-clause-shows
returns-else-has_picture-clause-shows c = λ m shows. let shown = pictures_shown c.args.self.now m c.args.picture shows in let stored = c.has_picture.ensures in let not_stored = c.if-has_picture.false in let waiting = c.has_picture-else-has_picture.ensures in grind arith
