-- What a source tells a target, in the model's three ways, and how much in each.
use Rattle.std.specs.Prelude.{◌≡◌, length}
use Rattle.photo_model.specs.Device.{ModelDevice}
use Rattle.photo_model.specs.Pull.{told, taken, handed, noticed}
use Rattle.test_list_device.specs.declared.pulling.News.{News}
use Rattle.test_list_device.specs.Entries.{entries_of}

pub record IsTold (t s : ModelDevice) (all : News) : Type 0 where
  pub entries : entries_of all.entries.items ≡ told t s
  pub taken : all.taken ≡ length (taken t s)
  pub handed : all.handed ≡ length (handed t s)
  pub notices : all.notices ≡ length (noticed t s)
