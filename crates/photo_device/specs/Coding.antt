-- Machinery of the proofs: a device's value as the tuple of its parts, by which a proof tells two values apart.
use Rattle.std.specs.Prelude.{ℕ, List, Option, refl}
use Rattle.std.specs.Coded.{Coded, code_by, coded×, coded_ℕ, coded_list, coded_option}
use Rattle.photo_filter_text.specs.Tree.{Tree}
use Rattle.photo_filter_rules.specs.Coding.{tree_code}
use Rattle.photo_version.specs.Author.{Author, author_of_word}
use Rattle.photo_version.specs.Version.{Version, version}
use Rattle.photo_device.specs.declared.held.Held.{Held}
use Rattle.photo_device.specs.contracts.held.Held as held
use Rattle.item_knowledge.specs.Fragments.{Fragment}
use Rattle.item_knowledge.specs.Coding.{fragments_code}
use Rattle.photo_device.specs.Device.{Kept, Staging}

abbrev pub held_code : Coded Held
held_code = held.the_row.coded

abbrev pub helds_code : Coded (List Held)
helds_code = coded_list held_code

abbrev pub author_code : Coded Author
author_code = code_by ℕ coded_ℕ (λ a. a.word) author_of_word (λ _. refl)

abbrev pub version_code : Coded Version
version_code = code_by (Author × ℕ) (coded× author_code coded_ℕ) (λ v. (v.author, v.number)) (λ p. version p.0 p.1) (λ _. refl)

abbrev pub staging_code : Coded Staging
staging_code =
    code_by (List Version × (List Held × (List Fragment × ℕ)))
    (coded× (coded_list version_code) (coded× helds_code (coded× fragments_code coded_ℕ)))
    (λ s. (s.drops, (s.takes, (s.knowledge, s.room))))
    (λ p. record { drops = p.0; takes = p.1.0; knowledge = p.1.1.0; room = p.1.1.1 })
    (λ _. refl)

abbrev pub kept_code : Coded Kept
kept_code =
    code_by (Author × (Tree × (ℕ × (List Held × (List Held × (List Fragment × Option Staging))))))
    (coded× author_code (coded× tree_code (coded× coded_ℕ (coded× helds_code (coded× helds_code (coded× fragments_code (coded_option staging_code)))))))
    (λ d. (d.author, (d.tree, (d.counter, (d.store, (d.out, (d.knowledge, d.staged)))))))
    (λ p. record {
      author = p.0;
      tree = p.1.0;
      counter = p.1.1.0;
      store = p.1.1.1.0;
      out = p.1.1.1.1.0;
      knowledge = p.1.1.1.1.1.0;
      staged = p.1.1.1.1.1.1;
    })
    (λ _. refl)
