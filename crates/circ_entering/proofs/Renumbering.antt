-- Lines of a table that are entered one after another.
use Rattle.std.proofs.Common.{◌≡◌, ◌<◌, ◌+◌, ◌⊎◌, inl, inr, ℕ, zero, suc, List, [], ◌∷◌, ◌++◌, length, map, take, drop, slice_index_or, slice_set}
use Rattle.std.proofs.Common.{Option, Some, None, Result, Ok, Err, OnOk, refl, ap, sym, subst, ◌∙◌, arith, replicate}
use Rattle.std.specs.List.{Contains, slice_get, AllByRecursion}
use Rattle.std.proofs.lemmas.Bool.{cases_eq}
use Rattle.std.proofs.lemmas.List.{length-map}
use Rattle.std.proofs.lemmas.List.Elements.{Contains-append_left, Contains-append_right}
use Rattle.circ_term.specs.Growing.{Grows}
use Rattle.circ_term.specs.Tree.{Tree, trees_of}
use Rattle.circ_theory.specs.Rewriting.{named}
use Rattle.circ_nodes.specs.Named.{IsNamed, AreNamed, tree_at}
use Rattle.circ_nodes.proofs.Located.{named_tree, trees_later}
use Rattle.circ_nodes.proofs.Numbers.{named_later, named_below, are_named_later}
use Rattle.circ_nodes.proofs.Places.{get_there}
use Rattle.circ_table.specs.Table.{first_at, firsts_at}
use Rattle.circ_table.proofs.Firsts.{first_parts}
use Rattle.circ_entering.specs.Lines.{HasOwnNumber, HaveNumbers, EntersMore, HaveNumbersBy, lines_by, line_numbers, numbered_at, lines_at, AreLinesAt, LinesStay}
use Rattle.circ_entering.specs.Lines.{EntersLines, IsNamedRightly}
use Rattle.circ_entering.specs.declared.lines.LineNumbers.{LineNumbers}
use Rattle.circ_entering.specs.declared.lines.NamedLines.{NamedLines}

-- ---- places of a list

at_put : (ns : List ℕ) (i x : ℕ) → i < length ns → slice_index_or (slice_set ns i x) i 0 ≡ x
at_put [] i x h = absurd (omega (arith, h))
at_put (n ∷ ns) zero x h = refl
at_put (n ∷ ns) (suc i) x h = at_put ns i x (omega (arith, h))

at_other : (ns : List ℕ) (i j x : ℕ) → (i ≡ j → ⊥) → slice_index_or (slice_set ns i x) j 0 ≡ slice_index_or ns j 0
at_other [] i j x a = refl
at_other (n ∷ ns) zero zero x a = absurd (a refl)
at_other (n ∷ ns) zero (suc j) x a = refl
at_other (n ∷ ns) (suc i) zero x a = refl
at_other (n ∷ ns) (suc i) (suc j) x a = at_other ns i j x (λ e. a (ap suc e))

pub put_length : (ns : List ℕ) (i x : ℕ) → length (slice_set ns i x) ≡ length ns
put_length [] i x = refl
put_length (n ∷ ns) zero x = refl
put_length (n ∷ ns) (suc i) x = ap suc (put_length ns i x)

-- the first stays where another place gets its number
at_first : (ns : List ℕ) (i : ℕ) → i < length ns → slice_index_or (slice_set ns i (slice_index_or ns 0 0)) 0 0 ≡ slice_index_or ns 0 0
at_first [] i h = refl
at_first (n ∷ ns) zero h = refl
at_first (n ∷ ns) (suc i) h = refl

at_replicate : (count i x : ℕ) → i < count → slice_index_or (replicate count x) i 0 ≡ x
at_replicate zero i x h = absurd (omega (arith, h))
at_replicate (suc count) zero x h = refl
at_replicate (suc count) (suc i) x h = at_replicate count i x (omega (arith, h))

replicate_length : (count x : ℕ) → length (replicate count x) ≡ count
replicate_length zero x = refl
replicate_length (suc count) x = ap suc (replicate_length count x)

-- what holds of all holds of the one at a place
pub place_all : (P : ℕ → Type 0) (ns : List ℕ) (i : ℕ) → AllByRecursion P ns → i < length ns → P (slice_index_or ns i 0)
place_all P [] i a h = absurd (omega (arith, h))
place_all P (n ∷ ns) zero a h = a.0
place_all P (n ∷ ns) (suc i) a h = place_all P ns i a.1 (omega (arith, h))

-- the number at a place that is there
read_there : (ns : List ℕ) (i x : ℕ) → i < length ns → x ≡ slice_index_or ns i x → x ≡ slice_index_or ns i 0
read_there [] i x h e = absurd (omega (arith, h))
read_there (n ∷ ns) zero x h e = e
read_there (n ∷ ns) (suc i) x h e = read_there ns i x (omega (arith, h)) e

drop_next : (ns : List ℕ) (i : ℕ) → i < length ns → drop i ns ≡ slice_index_or ns i 0 ∷ drop (i + 1) ns
drop_next [] i h = absurd (omega (arith, h))
drop_next (n ∷ ns) zero h = refl
drop_next (n ∷ ns) (suc i) h = let e : suc i + 1 ≡ suc (i + 1) = omega arith in rw e (drop_next ns i (omega (arith, h)))

contains_rest : (xs : List ℕ) (x n : ℕ) → Contains (x ∷ xs) n → (x ≡ n → ⊥) → Contains xs n
contains_rest xs x n (zero, h, e) a = absurd (a e)
contains_rest xs x n (suc k, h, e) a = (k, omega (arith, h), e)

-- ---- numbers of lines

pub line_there : (table : List Tree) (n : ℕ) → n < length table → slice_get table n ≡ Some (named table n)
line_there table n h = let x = get_there table n h in x.1 ∙ sym (ap Some (named_tree table n x.0 x.1))

own_later : (table a b : List Tree) (ns : List ℕ) → Grows a b → (n : ℕ) → HasOwnNumber a table ns n → HasOwnNumber b table ns n
own_later table a b ns g n h = named_later a b (slice_index_or ns n 0) (named table n) g h

pub own_read : (nodes table : List Tree) (ns : List ℕ) (n x : ℕ) → n < length ns → x ≡ slice_index_or ns n x → HasOwnNumber nodes table ns n
    → IsNamed nodes x (named table n)
own_read nodes table ns n x b read own =
    let P : ℕ → Type 0 = λ y. IsNamed nodes y (named table n) in subst P (sym (read_there ns n x b read)) own

numbers_later : (table a b : List Tree) (ns late : List ℕ) → Grows a b → HaveNumbers a table ns late → HaveNumbers b table ns late
numbers_later table a b ns late g h = record {
  count = h.count;
  first = λ l. own_later table a b ns g 0 (h.first l);
  each = λ n l. go n (h.each n l);
  within = h.within;
}
  where
    go : (n : ℕ) → HasOwnNumber a table ns n ⊎ ((slice_index_or ns n 0 ≡ slice_index_or ns 0 0) ⊎ Contains late n)
        → HasOwnNumber b table ns n ⊎ ((slice_index_or ns n 0 ≡ slice_index_or ns 0 0) ⊎ Contains late n)
    go n (inl own) = inl (own_later table a b ns g n own)
    go n (inr e) = inr e

-- where none is late, each number is there
numbers_there : (nodes table : List Tree) (ns : List ℕ) → HaveNumbers nodes table ns [] → AllByRecursion (λ n. n < length nodes) ns
numbers_there nodes table ns h = each_there ns (λ n l. here n l (h.each n (omega (arith, l, h.count))))
  where
    first : 0 < length ns → slice_index_or ns 0 0 < length nodes
    first l = named_below nodes (slice_index_or ns 0 0) (named table 0) (h.first (omega (arith, l, h.count)))

    here : (n : ℕ) → n < length ns → HasOwnNumber nodes table ns n ⊎ ((slice_index_or ns n 0 ≡ slice_index_or ns 0 0) ⊎ Contains [] n)
        → slice_index_or ns n 0 < length nodes
    here n l (inl own) = named_below nodes (slice_index_or ns n 0) (named table n) own
    here n l (inr (inl e)) = let f = first (omega (arith, l)) in omega (arith, e, f)
    here n l (inr (inr (k, b, e))) = absurd (omega (arith, b))

    each_there : (ms : List ℕ) → ((n : ℕ) → n < length ms → slice_index_or ms n 0 < length nodes) → AllByRecursion (λ n. n < length nodes) ms
    each_there [] f = tt
    each_there (m ∷ ms) f = (f 0 (omega arith), each_there ms (λ n l. f (suc n) (omega (arith, l))))

-- a line gets a number: its own, or it is late
module _ (nodes table : List Tree) (ns late later : List ℕ) (i x : ℕ) (h : HaveNumbers nodes table ns late) (apart : i ≡ 0 → ⊥) (within : i < length table)
    (here : IsNamed nodes x (named table i) ⊎ Contains later i) (more : (n : ℕ) → Contains late n → Contains later n)
    (all : AllByRecursion (λ n. n < length table) later) where
  put_each : (n : ℕ) → (i ≡ n) ⊎ (i ≡ n → ⊥) → HasOwnNumber nodes table ns n ⊎ ((slice_index_or ns n 0 ≡ slice_index_or ns 0 0) ⊎ Contains late n)
      → HasOwnNumber nodes table (slice_set ns i x) n ⊎ ((slice_index_or (slice_set ns i x) n 0 ≡ slice_index_or (slice_set ns i x) 0 0) ⊎ Contains later n)
  put_each n (inl e) old = elim here [
    | inl own ↦ inl (
        let P : ℕ → Type 0 = λ y. IsNamed nodes y (named table i) in
        let Q : ℕ → Type 0 = HasOwnNumber nodes table (slice_set ns i x) in
        subst Q e (subst P (sym (at_put ns i x (omega (arith, within, h.count)))) own)
        )
    | inr c ↦ inr (inr (subst (Contains later) e c))
  ]
  put_each n (inr a) (inl own) = let P : ℕ → Type 0 = λ y. IsNamed nodes y (named table n) in inl (subst P (sym (at_other ns i n x a)) own)
  put_each n (inr a) (inr (inl e)) = inr (inl (at_other ns i n x a ∙ e ∙ sym (at_other ns i 0 x apart)))
  put_each n (inr a) (inr (inr c)) = inr (inr (more n c))

  put_numbers : HaveNumbers nodes table (slice_set ns i x) later
  put_numbers = record {
    count = put_length ns i x ∙ h.count;
    first = λ l. let P : ℕ → Type 0 = λ y. IsNamed nodes y (named table 0) in subst P (sym (at_other ns i 0 x apart)) (h.first l);
    each = λ n l. put_each n (cases_eq i n) (h.each n l);
    within = all;
  }

-- a line that is late has the number of the first again
pub forget_next : (nodes table : List Tree) (ns : List ℕ) (i : ℕ) (late : List ℕ) → HaveNumbers nodes table ns (i ∷ late)
    → HaveNumbers nodes table (slice_set ns i (slice_index_or ns 0 0)) late
forget_next nodes table ns i late h = record {
  count = put_length ns i first ∙ h.count;
  first = λ l. let P : ℕ → Type 0 = λ y. IsNamed nodes y (named table 0) in subst P (sym (at_first ns i within)) (h.first l);
  each = λ n l. go n (cases_eq i n) (h.each n l);
  within = h.within.1;
}
  where
    first : ℕ
    first = slice_index_or ns 0 0

    within : i < length ns
    within = let l = h.within.0 in omega (arith, l, h.count)

    go : (n : ℕ) → (i ≡ n) ⊎ (i ≡ n → ⊥) → HasOwnNumber nodes table ns n ⊎ ((slice_index_or ns n 0 ≡ slice_index_or ns 0 0) ⊎ Contains (i ∷ late) n)
        → HasOwnNumber nodes table (slice_set ns i first) n ⊎ ((slice_index_or (slice_set ns i first) n 0 ≡ slice_index_or (slice_set ns i first) 0 0) ⊎ Contains late n)
    go n (inl e) old = inr (inl (ap (λ m. slice_index_or (slice_set ns i first) m 0) (sym e) ∙ at_put ns i first within ∙ sym (at_first ns i within)))
    go n (inr a) (inl own) = let P : ℕ → Type 0 = λ y. IsNamed nodes y (named table n) in inl (subst P (sym (at_other ns i n first a)) own)
    go n (inr a) (inr (inl e)) = inr (inl (at_other ns i n first a ∙ e ∙ sym (at_first ns i within)))
    go n (inr a) (inr (inr c)) = inr (inr (contains_rest late i n c a))

pub all_next : (nodes table : List Tree) (ns lines : List ℕ) (i x : ℕ) → i < length lines → 0 < length ns → x ≡ slice_index_or ns 0 x
    → HaveNumbers nodes table ns (drop i lines) → HaveNumbers nodes table (slice_set ns (slice_index_or lines i 0) x) (drop (i + 1) lines)
all_next nodes table ns lines i x b some read h =
    let n = slice_index_or lines i 0 in
    let P : ℕ → Type 0 = λ y. HaveNumbers nodes table (slice_set ns n y) (drop (i + 1) lines) in
    subst P (sym (read_there ns 0 x some read))
    (forget_next nodes table ns n (drop (i + 1) lines) (subst (HaveNumbers nodes table ns) (drop_next lines i b) h))

-- only the first line is entered
pub first_entered : (nodes table : List Tree) (x : ℕ) → IsNamed nodes x (named table 0) → HaveNumbers nodes table (replicate (length table) x) []
first_entered nodes table x e = record {
  count = replicate_length (length table) x;
  first = λ l. let P : ℕ → Type 0 = λ y. IsNamed nodes y (named table 0) in subst P (sym (at_replicate (length table) 0 x l)) e;
  each = λ n l. inr (inl (at_replicate (length table) n x l ∙ sym (at_replicate (length table) 0 x (omega (arith, l)))));
  within = tt;
}

-- no line is below the first
pub none_below : (ns : List ℕ) → AllByRecursion (λ n. n < 0) ns → ns ≡ []
none_below [] a = refl
none_below (n ∷ ns) a = absurd (let h = a.0 in omega (arith, h))

pub none_entered : (nodes table : List Tree) (ns : List ℕ) → length table ≡ 0 → ns ≡ [] → HaveNumbers nodes table ns []
none_entered nodes table ns e f = record {
  count = ap length f ∙ sym e;
  first = λ l. absurd (omega (arith, l, e));
  each = λ n l. absurd (omega (arith, l, e));
  within = tt;
}

-- ---- more lines

pub enters_none : (table nodes : List Tree) (l : LineNumbers) → HaveNumbers nodes table l.numbers.items [] → EntersMore table nodes nodes l l
enters_none table nodes l h = record { numbers = h; kept = λ n own. own; stay = λ base s. s }

pub enters_more : (table a b c : List Tree) (k l m : LineNumbers) → EntersMore table a b k l → EntersMore table b c l m → EntersMore table a c k m
enters_more table a b c k l m x y = record {
  numbers = y.numbers;
  kept = λ n own. y.kept n (x.kept n own);
  stay = λ base s. y.stay base (x.stay base s);
}

all_push : (P : ℕ → Type 0) (ns : List ℕ) (n : ℕ) → AllByRecursion P ns → P n → AllByRecursion P (ns ++ n ∷ [])
all_push P [] n a h = (h, tt)
all_push P (m ∷ ns) n a h = (a.0, all_push P ns n a.1 h)

-- one line more
module _ (table a b : List Tree) (old new : LineNumbers) (i x : ℕ) (g : Grows a b) (h : HaveNumbers a table old.numbers.items []) (apart : i ≡ 0 → ⊥)
    (within : i < length table) (own : IsNamed b x (named table i)) (put : new.numbers.items ≡ slice_set old.numbers.items i x)
    (late : new.late.items ≡ old.late.items ++ i ∷ []) where
  pub put_own : HasOwnNumber b table new.numbers.items i
  put_own =
      let P : ℕ → Type 0 = λ y. IsNamed b y (named table i) in
      let Q : List ℕ → Type 0 = λ ns. HasOwnNumber b table ns i in
      subst Q (sym put) (subst P (sym (at_put old.numbers.items i x (omega (arith, within, h.count)))) own)

  pub put_enters : EntersMore table a b old new
  put_enters =
      let ns = old.numbers.items in
      let P : List ℕ → Type 0 = λ ms. HaveNumbers b table ms [] in
      let S : (nodes : List Tree) → List ℕ → Type 0 = λ nodes ms. HaveNumbers nodes table ms (old.late.items ++ i ∷ []) in
      let L : (nodes : List Tree) → List ℕ → Type 0 = λ nodes ms. HaveNumbers nodes table new.numbers.items ms in
      let K : ℕ → List ℕ → Type 0 = λ n ms. HasOwnNumber b table ms n in
      record {
        numbers = subst P (sym put) (put_numbers b table ns [] [] i x (numbers_later table a b ns [] g h) apart within (inl own) (λ n c. c) tt);
        kept = λ n own. subst (K n) (sym put) (kept n (cases_eq i n) own);
        stay = λ nodes s.
            subst (L nodes) (sym late) (subst (S nodes) (sym put) (put_numbers nodes table ns old.late.items (old.late.items ++ i ∷ []) i x s apart within
            (inr (Contains-append_right old.late.items (i ∷ []) i (0, omega arith, refl))) (λ n c. Contains-append_left old.late.items (i ∷ []) n c)
            (all_push (λ n. n < length table) old.late.items i s.within within)));
      }
    where
      kept : (n : ℕ) → (i ≡ n) ⊎ (i ≡ n → ⊥) → HasOwnNumber a table old.numbers.items n → HasOwnNumber b table (slice_set old.numbers.items i x) n
      kept n (inl e) k =
          let P : ℕ → Type 0 = λ y. IsNamed b y (named table i) in
          subst (HasOwnNumber b table (slice_set old.numbers.items i x)) e
          (subst P (sym (at_put old.numbers.items i x (omega (arith, within, h.count)))) own)
      kept n (inr apart) k =
          let P : ℕ → Type 0 = λ y. IsNamed b y (named table n) in
          subst P (sym (at_other old.numbers.items i n x apart)) (own_later table a b old.numbers.items g n k)

pub ok_to : {T E A B : Type 0} (r : Result T E) → (A → B) → OnOk r A → OnOk r B
ok_to (Ok x) f a = f a
ok_to (Err e) f a = tt

pub both_ok : {T E A B C : Type 0} (r : Result T E) → (A → B → C) → OnOk r A → OnOk r B → OnOk r C
both_ok (Ok x) f a b = f a b
both_ok (Err e) f a b = tt

-- lines that have their own numbers keep them
pub all_kept : (table a b : List Tree) (old new : LineNumbers) → EntersMore table a b old new → (ns : List ℕ)
    → AllByRecursion (HasOwnNumber a table old.numbers.items) ns → AllByRecursion (HasOwnNumber b table new.numbers.items) ns
all_kept table a b old new e [] h = tt
all_kept table a b old new e (n ∷ ns) h = (e.kept n h.0, all_kept table a b old new e ns h.1)

-- and one more has its own
pub own_next : (nodes table : List Tree) (ms ns : List ℕ) (i n : ℕ) → i < length ns → n ≡ slice_index_or ns i 0
    → AllByRecursion (HasOwnNumber nodes table ms) (take i ns) → HasOwnNumber nodes table ms n → AllByRecursion (HasOwnNumber nodes table ms) (take (i + 1) ns)
own_next nodes table ms [] i n b e h own = absurd (omega (arith, b))
own_next nodes table ms (m ∷ ns) zero n b e h own = (subst (HasOwnNumber nodes table ms) e own, tt)
own_next nodes table ms (m ∷ ns) (suc i) n b e h own =
    let P : ℕ → Type 0 = λ k. AllByRecursion (HasOwnNumber nodes table ms) (take k (m ∷ ns)) in
    let same : suc (i + 1) ≡ suc i + 1 = omega arith in
    subst P same (h.0, own_next nodes table ms ns i n (omega (arith, b)) e h.1 own)

-- ---- the lines that a line names

named_push : (nodes : List Tree) (ns : List ℕ) (ts : List Tree) (n : ℕ) (t : Tree) → AreNamed nodes ns (trees_of ts) → IsNamed nodes n t
    → AreNamed nodes (ns ++ n ∷ []) (trees_of (ts ++ t ∷ []))
named_push nodes [] [] n t a h = (h, tt)
named_push nodes [] (u ∷ ts) n t a h = absurd a
named_push nodes (m ∷ ns) [] n t a h = absurd a
named_push nodes (m ∷ ns) (u ∷ ts) n t a h = (a.0, named_push nodes ns ts n t a.1 h)

map_next : (f : ℕ → Tree) (ns : List ℕ) (i n : ℕ) → i < length ns → n ≡ slice_index_or ns i 0 → map f (take (i + 1) ns) ≡ map f (take i ns) ++ f n ∷ []
map_next f [] i n h e = absurd (omega (arith, h))
map_next f (m ∷ ns) zero n h e = ap (λ t. t ∷ []) (ap f (sym e))
map_next f (m ∷ ns) (suc i) n h e =
    let same : suc i + 1 ≡ suc (i + 1) = omega arith in
    ap (λ k. map f (take k (m ∷ ns))) same ∙ ap (λ ts. f m ∷ ts) (map_next f ns i n (omega (arith, h)) e)

pub args_next : (table a b : List Tree) (found new ks : List ℕ) (i n x : ℕ) → Grows a b → i < length ks → n ≡ slice_index_or ks i 0 → IsNamed b x (named table n)
    → new ≡ found ++ x ∷ [] → AreNamed a found (trees_of (map (named table) (take i ks))) → AreNamed b new (trees_of (map (named table) (take (i + 1) ks)))
args_next table a b found new ks i n x g h e own put are =
    let P : List ℕ → Type 0 = λ ns. AreNamed b ns (trees_of (map (named table) (take (i + 1) ks))) in
    let Q : List Tree → Type 0 = λ ts. AreNamed b (found ++ x ∷ []) (trees_of ts) in
    subst P (sym put) (subst Q (sym (map_next (named table) ks i n h e))
    (named_push b found (map (named table) (take i ks)) x (named table n) (are_named_later a b found _ g are) own))

-- the terms of a line's arguments
pub firsts_named : (table : List Tree) (ks : List ℕ) (ts : List Tree) → firsts_at table ks ≡ Some ts → map (named table) ks ≡ ts
firsts_named table [] [] e = refl
firsts_named table [] (t ∷ ts) e = absurd (cc)
firsts_named table (k ∷ ks) ts e = go (first_at table k) refl (firsts_at table ks) refl ts e (λ us f. firsts_named table ks us f)
  where
    go : (o : Option Tree) → first_at table k ≡ o → (p : Option (List Tree)) → firsts_at table ks ≡ p → (ts : List Tree) → firsts_at table (k ∷ ks) ≡ Some ts
        → ((us : List Tree) → firsts_at table ks ≡ Some us → map (named table) ks ≡ us) → named table k ∷ map (named table) ks ≡ ts
    go None f p g ts e rest = absurd (let z = rw f at e in cc)
    go (Some t) f None g ts e rest = absurd (let z = rw (f, g) at e in cc)
    go (Some t) f (Some us) g ts e rest =
        let z : Some (t ∷ us) ≡ Some ts = rw (f, g) at e in
        let same : t ∷ us ≡ ts = cc in
        ap (λ x. x ∷ map (named table) ks) (named_tree table k t (first_parts table k t f).0) ∙ ap (λ us. t ∷ us) (rest us g) ∙ same

-- ---- all lines of a table, or of none

all_later : (old new : List Tree) (g : Grows old new) (ns : List ℕ) → AllByRecursion (λ n. n < length old) ns → AllByRecursion (λ n. n < length new) ns
all_later old new g [] a = tt
all_later old new g (n ∷ ns) a =
    let x = get_there old n a.0 in
    (named_below new n x.0 (named_later old new n x.0 g x.1), all_later old new g ns a.1)

by_later : (a b : List Tree) (o : Option (List Tree)) (ns late : List ℕ) → Grows a b → HaveNumbersBy a o ns late → HaveNumbersBy b o ns late
by_later a b None ns late g h = (all_later a b g ns h.0, h.1)
by_later a b (Some table) ns late g h = numbers_later table a b ns late g h

by_there : (nodes : List Tree) (o : Option (List Tree)) (ns : List ℕ) → HaveNumbersBy nodes o ns [] → AllByRecursion (λ n. n < length nodes) ns
by_there nodes None ns h = h.0
by_there nodes (Some table) ns h = numbers_there nodes table ns h

by_length : (nodes : List Tree) (o : Option (List Tree)) (ns late : List ℕ) → HaveNumbersBy nodes o ns late → length (lines_by nodes o ns) ≡ length ns
by_length nodes None ns late h = length-map ns (tree_at nodes)
by_length nodes (Some table) ns late h = sym h.count

-- those that are late are lines
pub late_within : (nodes : List Tree) (o : Option (List Tree)) (ns late : List ℕ) → HaveNumbersBy nodes o ns late → AllByRecursion (λ n. n < length ns) late
late_within nodes None ns late h = let P : List ℕ → Type 0 = AllByRecursion (λ n. n < length ns) in subst P (sym h.1) tt
late_within nodes (Some table) ns late h = let P : ℕ → Type 0 = λ k. AllByRecursion (λ n. n < k) late in subst P (sym h.count) h.within

pub of_table : (nodes : List Tree) (o : Option (List Tree)) (table : List Tree) (ns late : List ℕ) → o ≡ Some table → HaveNumbersBy nodes o ns late
    → HaveNumbers nodes table ns late
of_table nodes o table ns late e h = let P : Option (List Tree) → Type 0 = λ x. HaveNumbersBy nodes x ns late in subst P e h

pub to_table : (nodes : List Tree) (o : Option (List Tree)) (table : List Tree) (ns late : List ℕ) → o ≡ Some table → HaveNumbers nodes table ns late
    → HaveNumbersBy nodes o ns late
to_table nodes o table ns late e h = let P : Option (List Tree) → Type 0 = λ x. HaveNumbersBy nodes x ns late in subst P (sym e) h

-- the lines that are late are forgotten
pub all_forgotten : (nodes : List Tree) (o : Option (List Tree)) (ns ms late : List ℕ) → (late ≡ [] → ms ≡ ns)
    → ((table : List Tree) → HaveNumbers nodes table ns late → HaveNumbers nodes table ms []) → HaveNumbersBy nodes o ns late → HaveNumbersBy nodes o ms []
all_forgotten nodes None ns ms late same f h = let P : List ℕ → Type 0 = AllByRecursion (λ n. n < length nodes) in (subst P (sym (same h.1)) h.0, refl)
all_forgotten nodes (Some table) ns ms late same f h = f table h

pub same_forgotten : (nodes : List Tree) (o : Option (List Tree)) (ns ms late : List ℕ) → (late ≡ [] → ms ≡ ns) → HaveNumbersBy nodes o ns late
    → lines_by nodes o ms ≡ lines_by nodes o ns
same_forgotten nodes None ns ms late same h = ap (map (tree_at nodes)) (same h.1)
same_forgotten nodes (Some table) ns ms late same h = refl

-- ---- lines that are named

-- the term of a number of a list
numbered_term : (nodes : List Tree) (ns : List ℕ) (n : ℕ) → n < length ns → named (map (tree_at nodes) ns) n ≡ tree_at nodes (slice_index_or ns n 0)
numbered_term nodes [] n h = absurd (omega (arith, h))
numbered_term nodes (m ∷ ns) zero h = refl
numbered_term nodes (m ∷ ns) (suc n) h = numbered_term nodes ns n (omega (arith, h))

-- where there is no table
pub none_named : (nodes : List Tree) (l : NamedLines) → l.table ≡ None → (ns : List ℕ) → AllByRecursion (IsNamedRightly nodes l) ns
none_named nodes l e [] = tt
none_named nodes l e (n ∷ ns) = (sym (ap (λ o. named (lines_by nodes o (line_numbers l)) n) e), none_named nodes l e ns)

pub none_enters : (nodes : List Tree) (l : NamedLines) → AreLinesAt nodes l → EntersLines nodes nodes l l
none_enters nodes l h = record { lines = h; terms = refl; stay = λ base s. s }

-- where there is one, more of its lines are entered
module _ (table a b : List Tree) (l : NamedLines) (e : l.table ≡ Some table) (m : LineNumbers) (more : EntersMore table a b l.lines m) where
  abbrev later : NamedLines
  later = record l { lines = m }

  pub enters_lines : EntersLines a b l later
  enters_lines = record {
    lines = to_table b l.table table m.numbers.items [] e more.numbers;
    terms = ap (λ o. lines_by b o m.numbers.items) e ∙ sym (ap (λ o. lines_by a o (line_numbers l)) e);
    stay = λ nodes s. to_table nodes l.table table m.numbers.items m.late.items e (more.stay nodes (of_table nodes l.table table (line_numbers l) l.lines.late.items e s));
  }

  pub lines_named : (ns : List ℕ) → AllByRecursion (λ n. n < length table) ns → AllByRecursion (HasOwnNumber b table m.numbers.items) ns
      → AllByRecursion (IsNamedRightly b later) ns
  lines_named [] h own = tt
  lines_named (n ∷ ns) h own =
      let long : n < length m.numbers.items = let k = h.0 in omega (arith, k, more.numbers.count) in (
        numbered_term b m.numbers.items n long ∙ named_tree b (slice_index_or m.numbers.items n 0) (named table n) own.0
            ∙ sym (ap (λ o. named (lines_by b o m.numbers.items) n) e),
        lines_named ns h.1 own.1,
      )

-- ---- for whoever keeps lines

pub at_later : (a b : List Tree) (l : NamedLines) → Grows a b → AreLinesAt a l → AreLinesAt b l
at_later a b l g h = by_later a b l.table (line_numbers l) [] g h

pub stay_later : (a b : List Tree) (l : NamedLines) → Grows a b → LinesStay a l → LinesStay b l
stay_later a b l g h = by_later a b l.table (line_numbers l) l.lines.late.items g h

by_same : (a b : List Tree) (o : Option (List Tree)) (ns late : List ℕ) → Grows a b → HaveNumbersBy a o ns late → lines_by b o ns ≡ lines_by a o ns
by_same a b None ns late g h = trees_later a b ns g h.0
by_same a b (Some table) ns late g h = refl

pub lines_later : (a b : List Tree) (l : NamedLines) → Grows a b → AreLinesAt a l → lines_at b l ≡ lines_at a l
lines_later a b l g h = by_same a b l.table (line_numbers l) [] g h

pub stay_lines : (a b : List Tree) (l : NamedLines) → Grows a b → LinesStay a l → lines_at b l ≡ lines_at a l
stay_lines a b l g h = by_same a b l.table (line_numbers l) l.lines.late.items g h

pub lines_there : (nodes : List Tree) (l : NamedLines) → AreLinesAt nodes l → AllByRecursion (λ n. n < length nodes) (line_numbers l)
lines_there nodes l h = by_there nodes l.table (line_numbers l) h

pub lines_length : (nodes : List Tree) (l : NamedLines) → AreLinesAt nodes l → length (lines_at nodes l) ≡ length (line_numbers l)
lines_length nodes l h = by_length nodes l.table (line_numbers l) [] h

pub stay_length : (nodes : List Tree) (l : NamedLines) → LinesStay nodes l → length (lines_at nodes l) ≡ length (line_numbers l)
stay_length nodes l h = by_length nodes l.table (line_numbers l) l.lines.late.items h

-- what holds of all lines holds of the terms of their numbers
pub numbered_all : (P : Tree → Type 0) (nodes : List Tree) (l : NamedLines) → AreLinesAt nodes l → AllByRecursion P (lines_at nodes l)
    → AllByRecursion P (numbered_at nodes l)
numbered_all P nodes l h a = go l.table (line_numbers l) h a
  where
    all_at : (table : List Tree) (n : ℕ) → n < length table → AllByRecursion P table → P (named table n)
    all_at [] n b a = absurd (omega (arith, b))
    all_at (t ∷ table) zero b a = a.0
    all_at (t ∷ table) (suc n) b a = all_at table n (omega (arith, b)) a.1

    each : (ns : List ℕ) → ((n : ℕ) → n < length ns → P (tree_at nodes (slice_index_or ns n 0))) → AllByRecursion P (map (tree_at nodes) ns)
    each [] f = tt
    each (n ∷ ns) f = (f 0 (omega arith), each ns (λ m b. f (suc m) (omega (arith, b))))

    own : (table : List Tree) (ns : List ℕ) (n : ℕ) → n < length table → AllByRecursion P table → HasOwnNumber nodes table ns n
        → P (tree_at nodes (slice_index_or ns n 0))
    own table ns n b a o = subst P (sym (named_tree nodes (slice_index_or ns n 0) (named table n) o)) (all_at table n b a)

    one : (table : List Tree) (ns : List ℕ) (n : ℕ) → n < length table → AllByRecursion P table → HaveNumbers nodes table ns []
        → HasOwnNumber nodes table ns n ⊎ ((slice_index_or ns n 0 ≡ slice_index_or ns 0 0) ⊎ Contains [] n) → P (tree_at nodes (slice_index_or ns n 0))
    one table ns n b a h (inl o) = own table ns n b a o
    one table ns n b a h (inr (inl e)) =
        let Q : ℕ → Type 0 = λ m. P (tree_at nodes m) in
        let some : 0 < length table = omega (arith, b) in
        subst Q (sym e) (own table ns 0 some a (h.first some))
    one table ns n b a h (inr (inr (k, c, e))) = absurd (omega (arith, c))

    go : (o : Option (List Tree)) (ns : List ℕ) → HaveNumbersBy nodes o ns [] → AllByRecursion P (lines_by nodes o ns) → AllByRecursion P (map (tree_at nodes) ns)
    go None ns h a = a
    go (Some table) ns h a = each ns (λ n b. let c : n < length table = omega (arith, b, h.count) in one table ns n c a h (h.each n c))
