-- Chains, schedules and batches.
use Rattle.std.proofs.Common.{◌≡◌, ℕ, zero, suc, ◌+◌, ◌<◌, ◌≤◌, List, [], ◌∷◌, ◌++◌, ◌⊎◌, inl, inr, length, refl, sym, ap, ◌∙◌, subst, length-append, arith}
use Rattle.std.specs.Prelude.{Option, Some}
use Rattle.std.specs.List.{AllByRecursion}
use Rattle.std.proofs.lemmas.Bool.{cases_order}
use Rattle.fleet_model.specs.Contents.{Contents}
use Rattle.photo_batcher.specs.Related.{IsNumber, AreRelated}
use Rattle.photo_batcher.specs.Batches.{IsChain, last_of, IsBatch, IsChainTo, AreBatches, IsSchedule, IsAfter, IsLinked, IsFollowed, HaveRisingPlaces, TakesPlaces}
use Rattle.photo_batcher.specs.Greedy.{IsGreedyTo}
use Rattle.photo_batcher.specs.Laws.{BatchesAreOne, BatchesAreASchedule, BatchesAreLeast, FollowedChainsAreLongest}
use Rattle.photo_batcher.proofs.Counting.{all_map}
use Rattle.photo_batcher.proofs.Lasts.{used_number, there, rises, HasBelow, has_below}

some_is : (m n : ℕ) → Some m ≡ Some n → m ≡ n
some_is m n e = cc

module _ (script : Contents) where
  -- places of a schedule rise along a chain
  climbs : (place : ℕ → ℕ) → IsSchedule script place → (m : ℕ) (rest : List ℕ) (n : ℕ) → IsChain script (m ∷ rest) → last_of (m ∷ rest) ≡ Some n → place m + length rest ≤ place n
  climbs place s m [] n c e = let same : place m ≡ place n = ap place (some_is m n e) in omega arith
  climbs place s m (k ∷ rest) n c e =
      let here : place m < place k = s m k c.1 c.2 in
      let more : place k + length rest ≤ place n = climbs place s k rest n c.3 e in
      omega arith

  pub chain_low : (place : ℕ → ℕ) → IsSchedule script place → (n : ℕ) (chain : List ℕ) → IsChainTo script n chain → length chain ≤ place n + 1
  chain_low place s n chain to = go chain to.is to.ends
    where
      go : (l : List ℕ) → IsChain script l → last_of l ≡ Some n → length l ≤ place n + 1
      go [] c e = omega arith
      go (m ∷ rest) c e = let up : place m + length rest ≤ place n = climbs place s m rest n c e in omega arith

  -- a chain extended by a related command is a chain
  goes_on : (chain : List ℕ) (l k : ℕ) → IsChain script chain → last_of chain ≡ Some l → l < k → AreRelated script l k → IsNumber script k → IsChain script (chain ++ k ∷ []) × (last_of (chain ++ k ∷ []) ≡ Some k)
  goes_on [] l k c e less r number = cc
  goes_on (x ∷ []) l k c e less r number =
      let same : l ≡ x = sym (some_is x l e) in
      ((c, subst (λ (y : ℕ). y < k) same less, subst (λ (y : ℕ). AreRelated script y k) same r, number), refl)
  goes_on (x ∷ y ∷ more) l k c e less r number = let rest = goes_on (y ∷ more) l k c.3 e less r number in ((c.0, c.1, c.2, rest.0), rest.1)

  pub chain_more : (chain : List ℕ) (l k : ℕ) → IsChainTo script l chain → l < k → AreRelated script l k → IsNumber script k → IsChainTo script k (chain ++ k ∷ [])
  chain_more chain l k to less r number = let both = goes_on chain l k to.is to.ends less r number in record { is = both.0; ends = both.1 }

  pub chain_one : (n : ℕ) → IsNumber script n → IsChainTo script n (n ∷ [])
  chain_one n number = record { is = number; ends = refl }

  pub related_numbers : (m n : ℕ) → AreRelated script m n → IsNumber script m × IsNumber script n
  related_numbers m n r = (used_number script m r.device r.first, used_number script n r.device r.second)

  pub batches_rise : (batch : ℕ → ℕ) → AreBatches script batch → IsSchedule script batch
  batches_rise batch all m n less r =
      let numbers = related_numbers m n r in
      let old = all m numbers.0 in
      let new = all n numbers.1 in
      let most = new.longest.longest (old.chain ++ n ∷ []) (chain_more old.chain m n old.longest.to less r numbers.1) in
      let long = length-append old.chain (n ∷ []) in
      let was = old.long in
      let is = new.long in
      omega arith

  -- places rise all along a chain
  rising : (place : ℕ → ℕ) → IsSchedule script place → (m : ℕ) (rest : List ℕ) → IsChain script (m ∷ rest) → AllByRecursion (λ n. place m < place n) rest × HaveRisingPlaces place (m ∷ rest) × AllByRecursion (IsNumber script) (m ∷ rest)
  rising place s m [] c = (tt, (tt, tt), (c, tt))
  rising place s m (k ∷ rest) c =
      let more = rising place s k rest c.3 in
      let here : place m < place k = s m k c.1 c.2 in
      let all : AllByRecursion (λ n. place m < place n) (k ∷ rest) = (here, all_map (λ n. place k < place n) (λ n. place m < place n) rest (λ n h. through (place m) (place k) (place n) here h) more.0) in
      (all, (all, more.1), (c.0, more.2))
    where
      through : (a b c : ℕ) → a < b → b < c → a < c
      through a b c h k = omega arith

  -- the batches computed from the last commands on devices are the batches as defined

  record HasChain (batch : ℕ → ℕ) (n : ℕ) : Type 0 where
    chain : List ℕ
    to : IsChainTo script n chain
    long : length chain ≡ batch n + 1

  has_chain : (batch : ℕ → ℕ) (count : ℕ) → IsGreedyTo script count batch → (most n : ℕ) → n ≤ most → n ≤ count → IsNumber script n → HasChain batch n
  has_chain batch count greedy zero n small few number = let above = number.0 in absurd (omega arith)
  has_chain batch count greedy (suc most) zero small few number = let above = number.0 in absurd (omega arith)
  has_chain batch count greedy (suc most) (suc n) small few number = go (cases_order (batch (suc n)) 0) (λ m less. has_chain batch count greedy most m (omega arith) (omega arith))
    where
      go : (batch (suc n) ≡ 0) ⊎ ((batch (suc n) < 0) ⊎ (0 < batch (suc n))) → ((m : ℕ) → m < suc n → IsNumber script m → HasChain batch m) → HasChain batch (suc n)
      go (inl first) more = record { chain = suc n ∷ []; to = chain_one (suc n) number; long = omega arith }
      go (inr (inl below)) more = absurd (omega arith)
      go (inr (inr some)) more =
          let t = there script (suc n) number in
          let b : HasBelow script batch count greedy (suc n) = has_below script batch count greedy n t.command (omega arith) t.is some in
          let old = more b.before b.earlier (related_numbers b.before (suc n) b.related).0 in
          let long = length-append old.chain (suc n ∷ []) in
          let was = old.long in
          let is = b.below in
          record { chain = old.chain ++ suc n ∷ []; to = chain_more old.chain b.before (suc n) old.to b.earlier b.related number; long = omega arith }

  pub greedy_rises : (batch : ℕ → ℕ) → IsGreedyTo script (length script.commands) batch → IsSchedule script batch
  greedy_rises batch greedy m n less r = rises script batch (length script.commands) greedy m n (related_numbers m n r).1.1 less r

  pub greedy_is : (batch : ℕ → ℕ) → IsGreedyTo script (length script.commands) batch → AreBatches script batch
  greedy_is batch greedy n number =
      let h = has_chain batch (length script.commands) greedy n n (omega arith) number.1 number in
      record {
        chain = h.chain;
        longest = record { to = h.to; longest = λ other to. let low = chain_low batch (greedy_rises batch greedy) n other to in let long = h.long in omega arith };
        long = h.long;
      }

  -- going back along a chain

  module _ (batch : ℕ → ℕ) (after : ℕ → Option ℕ) (all : (k : ℕ) → IsNumber script k → IsAfter script batch k (after k)) where
    record IsLinkedChain (m : ℕ) (rest : List ℕ) (n : ℕ) : Type 0 where
      number : IsNumber script m
      is : IsChain script (m ∷ rest)
      long : batch m + length rest ≡ batch n

    linked_chain : (m : ℕ) (rest : List ℕ) (n : ℕ) → IsLinked after (m ∷ rest) → last_of (m ∷ rest) ≡ Some n → IsNumber script n → IsLinkedChain m rest n
    linked_chain m [] n l e last =
        let same : m ≡ n = some_is m n e in
        let equal : batch m ≡ batch n = ap batch same in
        let number : IsNumber script m = subst (IsNumber script) (sym same) last in
        record { number = number; is = number; long = omega arith }
    linked_chain m (k ∷ rest) n l e last =
        let more = linked_chain k rest n l.1 e last in
        let before : IsAfter script batch k (Some m) = subst (IsAfter script batch k) l.0 (all k more.number) in
        let b = before.0 in
        let numbers = related_numbers m k b.related in
        let below = b.below in
        let long = more.long in
        record { number = numbers.0; is = (numbers.0, b.earlier, b.related, more.is); long = omega arith }

    followed : (n : ℕ) (chain : List ℕ) → IsNumber script n → IsFollowed after n chain → IsChainTo script n chain × (length chain ≡ batch n + 1)
    followed n chain number f =
        let l : IsLinkedChain f.first f.rest n = linked_chain f.first f.rest n (subst (IsLinked after) f.is f.linked) (ap last_of (sym f.is) ∙ f.ends) number in
        let first : batch f.first ≡ 0 = subst (IsAfter script batch f.first) f.none (all f.first l.number) in
        let long = l.long in
        let whole : length chain ≡ suc (length f.rest) = ap length f.is in
        (record { is = subst (IsChain script) (sym f.is) l.is; ends = f.ends }, omega arith)

pub batches_are_one : BatchesAreOne
batches_are_one script n one other a b = let x = a.longest.longest b.chain b.longest.to in let y = b.longest.longest a.chain a.longest.to in let z = a.long in let w = b.long in omega arith

pub batches_are_a_schedule : BatchesAreASchedule
batches_are_a_schedule script batch all = batches_rise script batch all

pub batches_are_least : BatchesAreLeast
batches_are_least script place n batch s b = let low = chain_low script place s n b.chain b.longest.to in let long = b.long in omega arith

-- b + 1 commands with rising places
pub takes_places : (script : Contents) (place : ℕ → ℕ) (n batch : ℕ) → IsSchedule script place → IsBatch script n batch → TakesPlaces script place (batch + 1)
takes_places script place n batch s b = go b.chain b.longest.to.is b.longest.to.ends b.long
  where
    go : (l : List ℕ) → IsChain script l → last_of l ≡ Some n → length l ≡ batch + 1 → TakesPlaces script place (batch + 1)
    go [] c e long = cc
    go (m ∷ rest) c e long = let r = rising script place s m rest c in record { commands = m ∷ rest; numbers = r.2; rising = r.1; many = long }

pub followed_chains_are_longest : FollowedChainsAreLongest
followed_chains_are_longest script batch after n chain batches afters number f =
    let own = followed script batch after afters n chain number f in
    let is = own.1 in
    let b = batches n number in
    let long = b.long in
    record { to = own.0; longest = λ other to. let most = b.longest.longest other to in omega arith }
