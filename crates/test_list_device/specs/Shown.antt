-- The model device that a list device shows.
use Rattle.photo_model.specs.Device.{ModelDevice}
use Rattle.test_list_device.specs.declared.list_device.ListDevice.{ListDevice}
use Rattle.test_list_device.specs.Sets.{listed, listed_of}
use Rattle.test_list_device.specs.Entries.{entries_of}

abbrev pub shown : ListDevice → ModelDevice
shown d = record {
  author = d.author;
  tree = d.filter;
  counter = d.counter;
  store = entries_of d.store.items;
  out = entries_of d.out.items;
  every = listed d.every.items;
  of = listed_of d.of.items;
}
