-- The number of workers that a word writes.
use Rattle.std.proofs.Common.{◌≡◌, ◌∙◌, ◌<◌, ◌≤◌, ℕ, true, false, refl, sym, ap, arith, Some, None, Result, Ok, Err}
use Rattle.std.proofs.lemmas.Bool.{cond-true, cond-false}
use Rattle.std.specs.Prelude.{Option, SomeIff, option_and_then}
use Rattle.std.specs.Str.Parse.{ParsesUnsigned, digits_value, without_leading_plus}
use Rattle.clap.specs.Words.{Text}
use Rattle.clap.specs.Matches.{ReadsOne}
use Rattle.clap.specs.ValueTests.{is_unsigned_in}
use Rattle.clap.specs.declared.builder.value_parser.ValueParser.TheVariants.{Unsigned}
use Rattle.clap.proofs.ValueTestLemmas.{accepts-Accepts, Accepts-accepts}
use Rattle.fleet_workers.specs.Limits.{max_workers}
use Rattle.photofleet_cli.specs.Asked.{workers_of}
use Rattle.photofleet_cli.proofs.Numbers.{IsNumber, refuted}

-- the word writes a number of workers
abbrev AreWorkers : Text → Type 0
AreWorkers word = IsNumber word × (0 < digits_value 10 (without_leading_plus word)) × (digits_value 10 (without_leading_plus word) ≤ max_workers)

workers_read : (word : Text) (n : ℕ) → AreWorkers word → n ≡ digits_value 10 (without_leading_plus word) → workers_of word ≡ Some n
workers_read word n are is =
    let passes : is_unsigned_in 1 max_workers word ≡ true = Accepts-accepts false (Unsigned 1 max_workers) word (are.0.0, omega (arith, are.2), omega (arith, are.1), are.2) in
    cond-true _ _ _ passes ∙ ap Some (sym is)

no_workers_read : (word : Text) → (AreWorkers word → ⊥) → workers_of word ≡ None
no_workers_read word other =
    let fails : is_unsigned_in 1 max_workers word ≡ false = refuted _ (λ passes.
    let number = accepts-Accepts false (Unsigned 1 max_workers) word passes in
    other ((number.0, omega (arith, number.3)), omega (arith, number.2), number.3)) in
    cond-false _ _ _ fails

-- what `get_one` with a 16-bit number reads from the word that was given, or from none
module _ {E : Type 0} (Gives : Text → Result ℕ E → Type 0) (parses : (word : Text) (r : Result ℕ E) → Gives word r → ParsesUnsigned 16 10 word r) where
  pub nothing_given : (given : Option Text) → ((word : Text) → given ≡ Some word → ReadsOne Gives word None) → None ≡ option_and_then workers_of given
  nothing_given None reads = refl
  nothing_given (Some word) reads =
      let nothing = reads word refl in
      let other = parses word (Err nothing.0) nothing.1 in
      sym (no_workers_read word (λ are. other (are.0.0, omega (arith, are.2))))

  pub number_given : (given : Option Text) (n : ℕ) (workers : Option ℕ) → (given ≡ None → Some n ≡ None) → ((word : Text) → given ≡ Some word → ReadsOne Gives word (Some n))
      → SomeIff workers ((0 < n) × (n ≤ max_workers)) n → workers ≡ option_and_then workers_of given
  number_given None n workers none reads are = cc (none refl)
  number_given (Some word) n (Some m) none reads are =
      let number = parses word (Ok n) (reads word refl) in
      sym (workers_read word m ((number.0.0, omega (arith, number.0.1)), omega (arith, are.0.0, number.1), omega (arith, are.0.1, number.1)) (are.1 ∙ number.1))
  number_given (Some word) n None none reads are =
      let number = parses word (Ok n) (reads word refl) in
      sym (no_workers_read word (λ these. are (omega (arith, these.1, number.1), omega (arith, these.2, number.1))))
