-- The model's entries that list entries stand for.
use Rattle.std.specs.Prelude.{List, map}
use Rattle.photo_model.specs.Entry.{Entry}
use Rattle.test_list_device.specs.declared.list_entry.ListEntry.{ListEntry}
use Rattle.test_list_device.specs.Sets.{listed}

abbrev pub entry_of : ListEntry → Entry
entry_of e = record {
  picture = e.picture;
  version = e.version;
  history = listed e.history.items;
  content = e.content;
}

abbrev pub entries_of : List ListEntry → List Entry
entries_of list = map entry_of list
