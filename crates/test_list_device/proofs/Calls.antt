-- What a device's calls make of the model device that it shows.
use Rattle.std.proofs.Common.{◌≡◌, ℕ, zero, suc, ◌+◌, ◌-◌, ◌≤◌, Bool, true, false, not, cond, eqb, ◌&&◌, ◌||◌, List, [], ◌∷◌, ◌++◌, length, take, refl, sym, ap, ◌∙◌, length-append, arith}
use Rattle.std.specs.Prelude.{filter, map}
use Rattle.std.proofs.Math.Seq.{take-append_seam}
use Rattle.std.proofs.lemmas.List.{length-map, map-append}
use Rattle.std.proofs.lemmas.List.Filters.{length-filter_both}
use Rattle.photo_record.specs.declared.record.Record.{Record}
use Rattle.photo_filter_text.specs.Tree.{Tree}
use Rattle.photo_filter_rules.specs.Matching.{matches}
use Rattle.photo_version.specs.Author.{Author, next_author}
use Rattle.photo_version.specs.Version.{Version, Versions, same_version}
use Rattle.photo_model.specs.Entry.{Entry, others, put_entry_if, put_entries}
use Rattle.photo_model.specs.Device.{ModelDevice, holds, selects, new_entry, made}
use Rattle.photo_model.specs.Telling.{tell}
use Rattle.photo_model.specs.Refiltered.{refiltered}
use Rattle.photo_model.specs.Pull.{taken, handed, told, leaves_store, leaves_out, pulled}
use Rattle.test_list_device.specs.declared.list_entry.ListEntry.{ListEntry}
use Rattle.test_list_device.specs.declared.known.Known.{Known}
use Rattle.test_list_device.specs.Sets.{listed, listed_of}
use Rattle.test_list_device.specs.Entries.{entry_of, entries_of}
use Rattle.test_list_device.proofs.Mapped.{map-filter}
use Rattle.test_list_device.proofs.Sets.{listed-append, listed_of-append, listed-picked}

-- the elements of a list that pass a test of entries
pub kept_by : (q : Entry → Bool) (list kept : List ListEntry) (entries : List Entry) → kept ≡ filter (λ e. q (entry_of e)) list → entries_of list ≡ entries → entries_of kept ≡ filter q entries
kept_by q list kept entries kept_is list_is = ap entries_of kept_is ∙ map-filter entry_of q list ∙ ap (filter q) list_is

-- what is known of a picture, in a single list
pub known_in : (every versions all : List Version) (pairs : List Known) (picture : ℕ) → versions ≡ map (λ k. k.version) (filter (λ k. eqb k.picture picture) pairs) → all ≡ every ++ versions
    → listed all ≡ (λ v. listed every v || listed_of pairs picture v)
known_in every versions all pairs picture picked all_is =
    ap listed all_is ∙ (λ i v. (listed-append every versions v ∙ ap (λ b. listed every v || b) (ap (λ l. listed l v) picked ∙ listed-picked picture pairs v)) i)

-- the set with one more version
pub listed_one_more : (every all : List Version) (w : Version) → all ≡ every ++ w ∷ [] → listed all ≡ (λ v. listed every v || same_version w v)
listed_one_more every all w all_is = ap listed all_is ∙ (λ i v. (listed-append every (w ∷ []) v ∙ one v) i)
  where
    one : (v : Version) → (listed every v || listed (w ∷ []) v) ≡ (listed every v || same_version w v)
    one v = grind arith

pub makes : (d : ModelDevice) (picture : ℕ) (content : Record) (e : Entry) (store out : List Entry) (every : Versions) → e ≡ new_entry d picture content
    → store ≡ put_entry_if (matches d.tree e.content) e (others picture d.store) → out ≡ put_entry_if (not (matches d.tree e.content)) e (others picture d.out)
    → every ≡ (λ v. d.every v || same_version e.version v) → record d { counter = d.counter + 1; store = store; out = out; every = every } ≡ made d picture content
makes d picture content e store out every is stored waiting learned = λ i. record d {
  counter = d.counter + 1;
  store = (stored ∙ ap (λ (x : Entry). put_entry_if (matches d.tree x.content) x (others picture d.store)) is) i;
  out = (waiting ∙ ap (λ (x : Entry). put_entry_if (not (matches d.tree x.content)) x (others picture d.out)) is) i;
  every = (learned ∙ ap (λ (x : Entry). λ v. d.every v || same_version x.version v) is) i;
}

pub refilters : (tree : Tree) (d : ModelDevice) (author : Author) (held store out : List Entry) (every : Versions) (of : ℕ → Versions) → author ≡ next_author d.author → held ≡ holds d
    → store ≡ put_entries (filter (λ e. matches tree e.content) held) [] → out ≡ put_entries (filter (λ e. not (matches tree e.content)) held) []
    → every ≡ (λ v. false) → ((p : ℕ) (v : Version) → of p v ≡ tell held p v)
    → record { author = author; tree = tree; counter = 0; store = store; out = out; every = every; of = of } ≡ refiltered tree d
refilters tree d author held store out every of author_is held_is stored waiting learned tells = λ i. record {
  author = author_is i;
  tree = tree;
  counter = 0;
  store = (stored ∙ ap (λ es. put_entries (filter (λ e. matches tree e.content) es) []) held_is) i;
  out = (waiting ∙ ap (λ es. put_entries (filter (λ e. not (matches tree e.content)) es) []) held_is) i;
  every = learned i;
  of = λ p v. (tells p v ∙ ap (λ es. tell es p v) held_is) i;
}

pub pulls : (t s : ModelDevice) (tree : Tree) (new store out : List Entry) (every : Versions) (of : ℕ → Versions) → tree ≡ t.tree → new ≡ taken t s ++ handed t s
    → store ≡ put_entries (filter (selects t) new) (filter (λ e. not (leaves_store t s e)) t.store)
    → out ≡ put_entries (filter (λ e. not (selects t e)) new) (filter (λ e. not (leaves_out t s e)) t.out)
    → every ≡ (pulled t s).every → of ≡ (pulled t s).of → record t { tree = tree; store = store; out = out; every = every; of = of } ≡ pulled t s
pulls t s tree new store out every of tree_is new_is stored waiting learned learned_of = λ i. record t {
  tree = tree_is i;
  store = (stored ∙ ap (λ es. put_entries (filter (selects t) es) (filter (λ e. not (leaves_store t s e)) t.store)) new_is) i;
  out = (waiting ∙ ap (λ es. put_entries (filter (λ e. not (selects t e)) es) (filter (λ e. not (leaves_out t s e)) t.out)) new_is) i;
  every = learned i;
  of = learned_of i;
}

-- one list appended to another
pub two_held : (a b ab : List ListEntry) (xs ys : List Entry) → entries_of a ≡ xs → entries_of b ≡ ys → ab ≡ a ++ b → entries_of ab ≡ xs ++ ys
two_held a b ab xs ys a_is b_is ab_is = ap entries_of ab_is ∙ map-append entry_of a b ∙ (λ i. a_is i ++ b_is i)

pub counted : (list : List ListEntry) (entries : List Entry) (n : ℕ) → n ≡ length list → entries_of list ≡ entries → n ≡ length entries
counted list entries n n_is is = n_is ∙ sym (length-map list entry_of) ∙ ap length is

-- two of three lists are at most as long as all three
pub in_all : (xs ys zs : List Entry) (all : List ListEntry) (m n : ℕ) → entries_of all ≡ xs ++ ys ++ zs → m ≡ length xs → n ≡ length ys → m + n ≤ length all
in_all xs ys zs all m n all_is m_is n_is =
    let whole : length all ≡ length (xs ++ ys) + length zs = sym (length-map all entry_of) ∙ ap length all_is ∙ length-append (xs ++ ys) zs in
    let front = length-append xs ys in
    omega arith

-- what a target knows of single pictures after a pull
pub of_then : (b : Bool) (more old heard all : List Known) (news : List Entry) → ((p : ℕ) (v : Version) → listed_of heard p v ≡ (listed_of old p v || tell news p v)) → all ≡ cond b (heard ++ more) heard
    → listed_of all ≡ (λ p v. listed_of old p v || (tell news p v || (b && listed_of more p v)))
of_then true more old heard all news tells all_is = ap listed_of all_is ∙ (λ i p v. (listed_of-append heard more p v ∙ ap (λ b. b || listed_of more p v) (tells p v) ∙ joined (listed_of old p v) (tell news p v) (listed_of more p v)) i)
  where
    joined : (a b c : Bool) → ((a || b) || c) ≡ (a || (b || c))
    joined a b c = grind arith
of_then false more old heard all news tells all_is = ap listed_of all_is ∙ (λ i p v. (tells p v ∙ alone (listed_of old p v) (tell news p v) (listed_of more p v)) i)
  where
    alone : (a b c : Bool) → (a || b) ≡ (a || (b || (false && c)))
    alone a b c = grind arith

-- how many entries were dropped

pub record AreGivenUp (q : Entry → Bool) (list kept : List ListEntry) : Type 0 where
  pub fewer : length kept ≤ length list
  pub count : length list - length kept ≡ length (filter q (entries_of list))

pub given_up : (q : Entry → Bool) (list kept : List ListEntry) → entries_of kept ≡ filter (λ e. not (q e)) (entries_of list) → AreGivenUp q list kept
given_up q list kept kept_is =
    let both = length-filter_both q (λ e. not (q e)) (λ e. refl) (entries_of list) in
    let all = length-map list entry_of in
    let rest = sym (length-map kept entry_of) ∙ ap length kept_is in
    record { fewer = omega arith; count = omega arith }

-- the entries in front of those that are only noticed
pub in_front : (told : List ListEntry) (new noticed : List Entry) (n : ℕ) → entries_of told ≡ new ++ noticed → n ≡ length new → entries_of (take n told) ≡ new
in_front told new noticed n told_is n_is =
    map-take entry_of n told ∙ (λ i. take (n_is i) (told_is i)) ∙ take-append_seam new noticed
  where
    map-take : {A B : Type 0} (f : A → B) (n : ℕ) (xs : List A) → map f (take n xs) ≡ take n (map f xs)
    map-take f zero xs = refl
    map-take f (suc n) [] = refl
    map-take f (suc n) (x ∷ xs) = ap (λ l. f x ∷ l) (map-take f n xs)
