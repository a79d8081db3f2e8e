-- Facts about all devices that a command keeps, and bounds on the versions made and epochs begun.
use Rattle.std.proofs.Common.{◌≡◌, ℕ, ◌%◌, ◌+◌, ◌<◌, ◌≤◌, true, false, cond, List, [], ◌∷◌, length, set, sym, ◌∙◌, refl, subst, le_refl, arith}
use Rattle.std.specs.Prelude.{Option, Some, None, IfSome}
use Rattle.std.specs.List.{AllByRecursion}
use Rattle.std.specs.Option.{option_map}
use Rattle.std.proofs.lemmas.List.{length-set}
use Rattle.photo_record.specs.declared.record.Record.{Record}
use Rattle.photo_record.specs.declared.record.Record.TheVariants.{Removed}
use Rattle.photo_filter_text.specs.Tree.{Tree, All}
use Rattle.photo_filter_rules.specs.Covers.{covers}
use Rattle.photo_version.specs.Author.{author, epoch_of_author}
use Rattle.photo_model.specs.Device.{ModelDevice, opening, made, is_held}
use Rattle.photo_model.specs.Refiltered.{refiltered}
use Rattle.fleet_model.specs.declared.command.Command.{Command}
use Rattle.fleet_model.specs.declared.command.Command.TheVariants as command
use Rattle.fleet_model.specs.Contents.{devices_of, IsWithin}
use Rattle.fleet_model.specs.Answers.{Exactly, NotHeld, NotNarrower}
use Rattle.fleet_model.specs.Runs.{effect, making, telling, changing, narrowing, opening_from, device_at, with_second}
use Rattle.fleet_model.specs.Steps.{effect_on, devices_after, HasMadeAtMost}
use Rattle.fleet_model.proofs.Effects.{all_set, all_at, all_are, narrowed_effect, changing_second, narrowing_second}

-- a fact that holds of all devices, and of the command's new devices, holds of all devices after the command

with_second_all : (P : ModelDevice → Type 0) (place : Option ℕ) (second : Option ModelDevice) (models : List ModelDevice) → AllByRecursion P models → IfSome second P → AllByRecursion P (with_second place second models)
with_second_all P (Some k) (Some d) models all here = all_set P models k d all here
with_second_all P (Some k) None models all here = all
with_second_all P None second models all here = all

pub after_all : (P : ModelDevice → Type 0) (c : Command) (models : List ModelDevice) → AllByRecursion P models → P (effect_on models c).first → IfSome (effect_on models c).second P → AllByRecursion P (devices_after models c)
after_all P c models all first second =
    with_second_all P (devices_of c).1 (effect_on models c).second (set models (devices_of c).0 (effect_on models c).first) (all_set P models (devices_of c).0 (effect_on models c).first all first) second

-- the command's second device, if any, has the fact too
pub second_all : (P : ModelDevice → Type 0) (models : List ModelDevice) (place : Option ℕ) (first count : ℕ) → count ≤ length models → AllByRecursion P models → IfSome place (λ k. (k < count) × (k ≡ first → ⊥)) → IfSome (option_map (device_at models) place) P
second_all P models None first count long all within = tt
second_all P models (Some k) first count long all within = let below = within.0 in all_at P models k (opening (author k) All) all (omega arith)

with_second_long : (place : Option ℕ) (second : Option ModelDevice) (models : List ModelDevice) → length (with_second place second models) ≡ length models
with_second_long (Some k) (Some d) models = length-set models k d
with_second_long (Some k) None models = refl
with_second_long None second models = refl

pub long_after : (c : Command) (models : List ModelDevice) → length (devices_after models c) ≡ length models
long_after c models = with_second_long (devices_of c).1 (effect_on models c).second (set models (devices_of c).0 (effect_on models c).first) ∙ length-set models (devices_of c).0 (effect_on models c).first

-- a command makes at most one version and begins at most one epoch

pub one_later : (n : ℕ) (m : ModelDevice) → HasMadeAtMost n m → HasMadeAtMost (n + 1) m
one_later n m most =
    let few : m.counter ≤ n = most.made in
    let early : epoch_of_author m.author ≤ n = most.begun in
    record { made = omega arith; begun = omega (arith, early) }

made_counts : (d : ModelDevice) (picture : ℕ) (content : Record) (n : ℕ) → HasMadeAtMost n d → HasMadeAtMost (n + 1) (made d picture content)
made_counts d picture content n most =
    let few : d.counter ≤ n = most.made in
    let early : epoch_of_author d.author ≤ n = most.begun in
    record { made = omega arith; begun = omega (arith, early) }

changing_counts : (d : ModelDevice) (other : Option ModelDevice) (picture : ℕ) (content : Record) (n : ℕ) → HasMadeAtMost n d → HasMadeAtMost (n + 1) (changing d other picture content).first
changing_counts d other picture content n most =
    elim (is_held d picture) as (λ b. HasMadeAtMost (n + 1) (cond b (making d other picture content) (telling d other (Exactly NotHeld))).first) [
      | true ↦ made_counts d picture content n most
      | false ↦ one_later n d most
    ]

narrowing_counts : (d : ModelDevice) (other : Option ModelDevice) (tree : Tree) (n : ℕ) → HasMadeAtMost n d → HasMadeAtMost (n + 1) (narrowing d other tree).first
narrowing_counts d other tree n most =
    let later = one_later n d most in
    elim (covers d.tree tree) as (λ b. HasMadeAtMost (n + 1) (cond b (narrowed_effect d other tree) (telling d other (Exactly NotNarrower))).first) [
      | true ↦ record { made = later.made; begun = later.begun }
      | false ↦ later
    ]

refiltering_counts : (d : ModelDevice) (tree : Tree) (n : ℕ) → HasMadeAtMost n d → HasMadeAtMost (n + 1) (refiltered tree d)
refiltering_counts d tree n most =
    let early : d.author.word % 4294967296 ≤ n = most.begun in
    record { made = omega arith; begun = omega (arith, early) }

pub effect_counts : (c : Command) (d : ModelDevice) (other : Option ModelDevice) (n : ℕ) → HasMadeAtMost n d → HasMadeAtMost (n + 1) (effect c d other).first
effect_counts (command.New k picture content) d other n most = made_counts d picture content n most
effect_counts (command.Edit k picture content) d other n most = changing_counts d other picture content n most
effect_counts (command.Remove k picture) d other n most = changing_counts d other picture Removed n most
effect_counts (command.Pull target source) d None n most = one_later n d most
effect_counts (command.Pull target source) d (Some s) n most = let later = one_later n d most in record { made = later.made; begun = later.begun }
effect_counts (command.Narrow k tree) d other n most = narrowing_counts d other tree n most
effect_counts (command.Refilter k tree) d other n most = refiltering_counts d tree n most
effect_counts (command.Preview target source) d None n most = one_later n d most
effect_counts (command.Preview target source) d (Some s) n most = one_later n d most
effect_counts (command.List k) d other n most = one_later n d most
effect_counts (command.Conflicts k) d other n most = one_later n d most
effect_counts (command.Knowledge k) d other n most = one_later n d most
effect_counts (command.Knows k picture v) d other n most = one_later n d most

pub effect_counts_second : (c : Command) (d : ModelDevice) (other : Option ModelDevice) (n : ℕ) → IfSome other (HasMadeAtMost n) → IfSome (effect c d other).second (HasMadeAtMost n)
effect_counts_second (command.New k picture content) d other n most = most
effect_counts_second (command.Edit k picture content) d other n most = subst (λ o. IfSome o (HasMadeAtMost n)) (sym (changing_second d other picture content)) most
effect_counts_second (command.Remove k picture) d other n most = subst (λ o. IfSome o (HasMadeAtMost n)) (sym (changing_second d other picture Removed)) most
effect_counts_second (command.Pull target source) d None n most = tt
effect_counts_second (command.Pull target source) d (Some s) n most = record { made = most.made; begun = most.begun }
effect_counts_second (command.Narrow k tree) d other n most = subst (λ o. IfSome o (HasMadeAtMost n)) (sym (narrowing_second d other tree)) most
effect_counts_second (command.Refilter k tree) d other n most = most
effect_counts_second (command.Preview target source) d None n most = tt
effect_counts_second (command.Preview target source) d (Some s) n most = most
effect_counts_second (command.List k) d other n most = most
effect_counts_second (command.Conflicts k) d other n most = most
effect_counts_second (command.Knowledge k) d other n most = most
effect_counts_second (command.Knows k picture v) d other n most = most

pub one_more : (n : ℕ) (o : Option ModelDevice) → IfSome o (HasMadeAtMost n) → IfSome o (HasMadeAtMost (n + 1))
one_more n None most = tt
one_more n (Some m) most = one_later n m most

-- the same bound for all devices
pub makes_one_more : (models : List ModelDevice) (c : Command) (n : ℕ) → IsWithin (length models) c → AllByRecursion (HasMadeAtMost n) models → AllByRecursion (HasMadeAtMost (n + 1)) (devices_after models c)
makes_one_more models c n within most =
    let k = (devices_of c).0 in
    let second = option_map (device_at models) (devices_of c).1 in
    let most_first : HasMadeAtMost n (device_at models k) = all_at (HasMadeAtMost n) models k (opening (author k) All) most within.0 in
    let most_second : IfSome second (HasMadeAtMost n) = second_all (HasMadeAtMost n) models (devices_of c).1 k (length models) (le_refl _) most within.1 in
    after_all (HasMadeAtMost (n + 1)) c models (all_are (HasMadeAtMost n) (HasMadeAtMost (n + 1)) models (one_later n) most)
    (effect_counts c (device_at models k) second n most_first) (one_more n (effect_on models c).second (effect_counts_second c (device_at models k) second n most_second))

pub opening_at_most : (filters : List Tree) (n : ℕ) → AllByRecursion (HasMadeAtMost 0) (opening_from n filters)
opening_at_most [] n = tt
opening_at_most (tree ∷ filters) n = (record { made = le_refl _; begun = omega arith }, opening_at_most filters (n + 1))
