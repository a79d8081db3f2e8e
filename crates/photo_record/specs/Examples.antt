-- What some texts denote, and how some values are shown.
use Rattle.std.specs.Prelude.{◌≡◌, [], ◌∷◌, ◌++◌, pos, neg_ℤ, Some, None, Ok, Err, codes, replicate}
use Rattle.photo_record.specs.Reading.{rating_of_text, day_of_text, word_of_text, words_of_text}
use Rattle.photo_record.specs.Showing.{day_text, words_text, record_text}
use Rattle.photo_record.specs.declared.record.Record.TheVariants.{Picture, Removed}
use Rattle.photo_record.specs.declared.fault.WordFault.TheVariants.{Empty, BadCharacter, TooLong, TooMany, Repeated}

pub record TheRatings : Type 0 where
  pub none : rating_of_text (codes "0") ≡ Some 0
  pub five : rating_of_text (codes "5") ≡ Some 5
  pub six : rating_of_text (codes "6") ≡ None
  pub zeros : rating_of_text (codes "05") ≡ None
  pub empty : rating_of_text [] ≡ None

pub record TheDays : Type 0 where
  pub first : day_of_text (codes "0000-01-01") ≡ Some (neg_ℤ (pos 719_528))
  pub leap : day_of_text (codes "2024-02-29") ≡ Some (pos 19_782)
  pub last : day_of_text (codes "9999-12-31") ≡ Some (pos 2_932_896)
  pub no_leap : day_of_text (codes "2023-02-29") ≡ None
  pub no_zero : day_of_text (codes "2024-2-29") ≡ None
  pub five_digits : day_of_text (codes "10000-01-01") ≡ None
  pub space : day_of_text (codes " 2024-01-01") ≡ None
  -- the last digit is U+0663
  pub other_digit : day_of_text (codes "2024-01-0" ++ 0xd9 ∷ 0xa3 ∷ []) ≡ None

-- é is the bytes c3 a9 in form C; it can also be written 65 cc 81, a letter and a mark
pub record TheWords : Type 0 where
  pub composed : word_of_text (0x65 ∷ 0xcc ∷ 0x81 ∷ []) ≡ Ok (0xc3 ∷ 0xa9 ∷ [])
  pub empty : word_of_text [] ≡ Err Empty
  pub next_line : word_of_text (0xc2 ∷ 0x85 ∷ []) ≡ Err BadCharacter
  pub no_break_space : word_of_text (0xc2 ∷ 0xa0 ∷ []) ≡ Ok (0xc2 ∷ 0xa0 ∷ [])
  pub quote : word_of_text (codes "a\"b") ≡ Err BadCharacter
  pub longest : word_of_text (replicate 64 97) ≡ Ok (replicate 64 97)
  pub longer : word_of_text (replicate 65 97) ≡ Err TooLong

pub record TheSets : Type 0 where
  pub dash : words_of_text (codes "-") ≡ Ok []
  pub dash_and_word : words_of_text (codes "x,-") ≡ Ok (codes "-" ∷ codes "x" ∷ [])
  pub twice : words_of_text (codes "x,x") ≡ Err Repeated
  pub comma_last : words_of_text (codes "x,") ≡ Err Empty
  pub comma : words_of_text (codes ",") ≡ Err Empty
  pub twice_in_form : words_of_text (0x65 ∷ 0xcc ∷ 0x81 ∷ 44 ∷ 0xc3 ∷ 0xa9 ∷ []) ≡ Err Repeated
  pub sixteen : words_of_text (codes "p,o,n,m,l,k,j,i,h,g,f,e,d,c,b,a")
      ≡ Ok (codes "a" ∷ codes "b" ∷ codes "c" ∷ codes "d" ∷ codes "e" ∷ codes "f" ∷ codes "g" ∷ codes "h"
      ∷ codes "i" ∷ codes "j" ∷ codes "k" ∷ codes "l" ∷ codes "m" ∷ codes "n" ∷ codes "o" ∷ codes "p" ∷ [])
  -- the seventeenth piece isn't read
  pub seventeen : words_of_text (codes "a,b,c,d,e,f,g,h,i,j,k,l,m,n,o,p,(") ≡ Err TooMany

-- 2024-05-01 is day 19844
pub record TheShown : Type 0 where
  pub picture : record_text (Picture 5 (pos 19_844) (codes "beach" ∷ codes "sun" ∷ [])) ≡ codes "rating 5 day 2024-05-01 words beach,sun"
  pub no_words : record_text (Picture 3 (pos 19_844) []) ≡ codes "rating 3 day 2024-05-01 words -"
  pub removed : record_text Removed ≡ codes "removed"
  pub first : day_text (neg_ℤ (pos 719_528)) ≡ codes "0000-01-01"
  pub last : day_text (pos 2_932_896) ≡ codes "9999-12-31"
  pub dash : words_text (codes "-" ∷ []) ≡ codes "-"
