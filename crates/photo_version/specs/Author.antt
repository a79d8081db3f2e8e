-- Authors: devices in their epochs.
use Rattle.std.specs.Prelude.{ℕ, ◌+◌, ◌*◌, ◌/◌, ◌%◌, Bool, ◌==◌, ◌&&◌, nat_lt}

-- an author: a device in one of its epochs, coded as device * 4294967296 + epoch, so that each number is one author
pub record Author : Type 0 where
  pub word : ℕ

-- the author of that device, numbered from 0 in order of declaration, and that epoch, from 0 to 4294967295
abbrev pub author_at : ℕ → ℕ → Author
author_at device epoch = record { word = device * 4294967296 + epoch }

-- the device in epoch 0
abbrev pub author : ℕ → Author
author device = author_at device 0

abbrev pub device_of_author : Author → ℕ
device_of_author a = a.word / 4294967296

abbrev pub epoch_of_author : Author → ℕ
epoch_of_author a = a.word % 4294967296

abbrev pub same_author : Author → Author → Bool
same_author a b = a.word == b.word

-- both are the same device, perhaps in different epochs
abbrev pub same_device : Author → Author → Bool
same_device a b = device_of_author a == device_of_author b

-- authors are ordered by device, then by epoch
abbrev pub author_before : Author → Author → Bool
author_before a b = nat_lt a.word b.word

-- the same device in its next epoch, if the author's isn't the last
abbrev pub next_author : Author → Author
next_author a = record { word = a.word + 1 }

-- the second author is a later epoch of the first one's device
abbrev pub is_earlier_epoch : Author → Author → Bool
is_earlier_epoch a b = same_device a b && author_before a b

-- the author's number; rows of words compare authors by it
abbrev pub author_word : Author → ℕ
author_word a = a.word

abbrev pub is_author_word : ℕ → Bool
is_author_word word = nat_lt word 281474976710656

abbrev pub author_of_word : ℕ → Author
author_of_word word = record { word = word }
