-- Members of lists that `++`, `filter`, `put` and `put_entries` make, and what tests on lists say of members.
use Rattle.std.proofs.Common.{◌≡◌, Bool, true, false, cond, List, [], ◌∷◌, ◌++◌, ◌⊎◌, inl, inr, filter, refl, sym, ap, ◌∙◌, arith}
use Rattle.std.specs.List.{list_any, list_all}
use Rattle.std.proofs.lemmas.Bool.{or_cases, or_left, or_right, and_from}
use Rattle.photo_model.specs.Entry.{Entry, entry_before, put_entry, put_entry_if, put_entries}
use Rattle.fleet_model.specs.Members.{In, here, there}

pub in_nothing : {X P : Type 0} {x : X} → In x [] → P
in_nothing i = elim i [ ]

pub in_one : {X : Type 0} {x y : X} → In x (y ∷ []) → x ≡ y
in_one (here e) = e
in_one (there i) = in_nothing i

pub in_left : {X : Type 0} {x : X} {xs : List X} (ys : List X) → In x xs → In x (xs ++ ys)
in_left ys (here e) = here e
in_left ys (there i) = there (in_left _ i)

pub in_right : {X : Type 0} {x : X} (xs : List X) {ys : List X} → In x ys → In x (xs ++ ys)
in_right [] i = i
in_right (y ∷ xs) i = there (in_right xs i)

pub in_either : {X : Type 0} {x : X} (xs : List X) {ys : List X} → In x (xs ++ ys) → In x xs ⊎ In x ys
in_either [] i = inr i
in_either (y ∷ xs) (here e) = inl (here e)
in_either (y ∷ xs) (there i) = elim (in_either xs i) [ inl a ↦ inl (there a) | inr b ↦ inr b ]

in_cond : {X : Type 0} {x y : X} {zs : List X} (b : Bool) → In x (cond b (y ∷ zs) zs) → In x zs ⊎ ((x ≡ y) × (b ≡ true))
in_cond true (here e) = inr (e, refl)
in_cond true (there i) = inl i
in_cond false i = inl i

-- a member of the filtered list is a member that passed the test
pub in_passed : {X : Type 0} {x : X} (p : X → Bool) (xs : List X) → In x (filter p xs) → In x xs × (p x ≡ true)
in_passed p [] i = in_nothing i
in_passed p (y ∷ xs) i = elim (in_cond (p y) i) [
  | inl a ↦ let r = in_passed _ _ a in (there r.0, r.1)
  | inr b ↦ (here b.0, ap p b.0 ∙ b.1)
]

cond_here : {X : Type 0} {x y : X} (zs : List X) (b : Bool) → x ≡ y → b ≡ true → In x (cond b (y ∷ zs) zs)
cond_here zs true e h = here e
cond_here zs false e h = grind arith

cond_there : {X : Type 0} {x : X} (y : X) {zs : List X} (b : Bool) → In x zs → In x (cond b (y ∷ zs) zs)
cond_there y true i = there i
cond_there y false i = i

pub passes : {X : Type 0} {x : X} (p : X → Bool) {xs : List X} → In x xs → p x ≡ true → In x (filter p xs)
passes p (here {y = y} {ys = ys} e) h = cond_here (filter p ys) (p y) e (sym (ap p e) ∙ h)
passes p (there {y = y} i) h = cond_there y (p y) (passes _ i h)

pub any_from : {X : Type 0} {x : X} (p : X → Bool) {xs : List X} → In x xs → p x ≡ true → list_any p xs ≡ true
any_from p (here {y = y} {ys = ys} e) h = or_left _ _ (sym (ap p e) ∙ h)
any_from p (there {y = y} {ys = ys} i) h = or_right _ _ (any_from _ i h)

pub any_gives : {X : Type 0} (p : X → Bool) (xs : List X) → list_any p xs ≡ true → (x : X) × In x xs × (p x ≡ true)
any_gives p [] h = grind arith
any_gives p (y ∷ xs) h = elim (or_cases _ _ h) [
  | inl a ↦ (y, here refl, a)
  | inr b ↦ let r = any_gives _ _ b in (r.0, there r.1, r.2)
]

pub all_from : {X : Type 0} (p : X → Bool) (xs : List X) → ((x : X) → In x xs → p x ≡ true) → list_all p xs ≡ true
all_from p [] h = refl
all_from p (y ∷ xs) h = and_from _ _ (h y (here refl)) (all_from _ _ (λ x i. h x (there i)))

-- the list with an entry inserted has that entry and the old members, and nothing else
pub put_is_in : {x e : Entry} (xs : List Entry) → x ≡ e → In x (put_entry e xs)
put_is_in [] h = here h
put_is_in {x = x} {e = e} (y ∷ xs) h = go (entry_before y e) (put_is_in xs h)
  where
    go : (b : Bool) → In x (put_entry e xs) → In x (cond b (y ∷ put_entry e xs) (e ∷ y ∷ xs))
    go true i = there i
    go false i = here h

pub stays_in_put : {x : Entry} (e : Entry) {xs : List Entry} → In x xs → In x (put_entry e xs)
stays_in_put {x = x} e (here {y = y} {ys = ys} h) = go (entry_before y e)
  where
    go : (b : Bool) → In x (cond b (y ∷ put_entry e ys) (e ∷ y ∷ ys))
    go true = here h
    go false = there (here h)
stays_in_put {x = x} e (there {y = y} {ys = ys} i) = go (entry_before y e) (stays_in_put e i)
  where
    go : (b : Bool) → In x (put_entry e ys) → In x (cond b (y ∷ put_entry e ys) (e ∷ y ∷ ys))
    go true j = there j
    go false j = there (there i)

pub in_put : {x : Entry} (e : Entry) (xs : List Entry) → In x (put_entry e xs) → (x ≡ e) ⊎ In x xs
in_put e [] (here h) = inl h
in_put e [] (there i) = inr i
in_put {x = x} e (y ∷ xs) i = go (entry_before y e) i (in_put _ _)
  where
    go : (b : Bool) → In x (cond b (y ∷ put_entry e xs) (e ∷ y ∷ xs)) → (In x (put_entry e xs) → (x ≡ e) ⊎ In x xs) → (x ≡ e) ⊎ In x (y ∷ xs)
    go true (here h) f = inr (here h)
    go true (there j) f = elim (f j) [ inl a ↦ inl a | inr b ↦ inr (there b) ]
    go false (here h) f = inl h
    go false (there j) f = inr j

pub in_put_if : {x : Entry} (b : Bool) (e : Entry) (xs : List Entry) → In x (put_entry_if b e xs) → ((x ≡ e) × (b ≡ true)) ⊎ In x xs
in_put_if true e xs i = elim (in_put e xs i) [ inl a ↦ inl (a, refl) | inr c ↦ inr c ]
in_put_if false e xs i = inr i

pub put_if_is_in : (b : Bool) (e : Entry) (xs : List Entry) → b ≡ true → In e (put_entry_if b e xs)
put_if_is_in true e xs h = put_is_in xs refl
put_if_is_in false e xs h = grind arith

pub stays_in_put_if : {x : Entry} (b : Bool) (e : Entry) {xs : List Entry} → In x xs → In x (put_entry_if b e xs)
stays_in_put_if true e i = stays_in_put e i
stays_in_put_if false e i = i

-- the same for all entries of a list
pub in_puts : {x : Entry} (es xs : List Entry) → In x (put_entries es xs) → In x es ⊎ In x xs
in_puts [] xs i = inr i
in_puts (e ∷ es) xs i = elim (in_put _ _ i) [
  | inl a ↦ inl (here a)
  | inr b ↦ elim (in_puts _ _ b) [ inl c ↦ inl (there c) | inr d ↦ inr d ]
]

pub puts_are_in : {x : Entry} {es : List Entry} (xs : List Entry) → In x es → In x (put_entries es xs)
puts_are_in xs (here {ys = es} h) = put_is_in (put_entries es xs) h
puts_are_in xs (there {y = e} i) = stays_in_put e (puts_are_in _ i)

pub stays_in_puts : {x : Entry} (es : List Entry) {xs : List Entry} → In x xs → In x (put_entries es xs)
stays_in_puts [] i = i
stays_in_puts (e ∷ es) i = stays_in_put e (stays_in_puts es i)
