-- The terms of a table, entered line by line.
use Rattle.std.proofs.Common.{◌≡◌, ◌<◌, ◌≤◌, ◌+◌, ℕ, zero, suc, List, [], ◌∷◌, ◌++◌, map, take, length, slice_index_or, Option, Some, None, refl, ap, sym, subst, ◌∙◌, arith}
use Rattle.std.proofs.Common.{length-append}
use Rattle.std.specs.List.{slice_get, AllByRecursion}
use Rattle.std.proofs.lemmas.List.{map-append, length-map, take_more, take_all}
use Rattle.std.proofs.lemmas.Option.{get_or_from_slice_get, slice_get_within}
use Rattle.circ_term.specs.Growing.{Grows}
use Rattle.circ_term.specs.Tree.{Tree, trees_of}
use Rattle.circ_nodes.specs.Named.{IsNamed, AreNamed, tree_at}
use Rattle.circ_nodes.proofs.Located.{tree_named, named_tree, trees_later}
use Rattle.circ_nodes.proofs.Numbers.{named_below}
use Rattle.circ_nodes.proofs.Places.{get_taken}
use Rattle.circ_table.specs.Table.{first_at, firsts_at}
use Rattle.circ_table.proofs.Firsts.{first_parts}
use Rattle.circ_steps.proofs.Numbering.{all_later}

-- ---- a line, from the numbers of those before it

mapped_at : (nodes : List Tree) (ns : List ℕ) → AllByRecursion (λ n. n < length nodes) ns → (k : ℕ) (t : Tree) → slice_get (map (tree_at nodes) ns) k ≡ Some t
    → IsNamed nodes (slice_index_or ns k 0) t
mapped_at nodes [] a k t e = absurd (cc)
mapped_at nodes (n ∷ ns) a zero t e = tree_named nodes n a.0 ∙ e
mapped_at nodes (n ∷ ns) a (suc k) t e = mapped_at nodes ns a.1 k t e

module _ (nodes : List Tree) (ns : List ℕ) (there : AllByRecursion (λ n. n < length nodes) ns) (table : List Tree)
    (terms : map (tree_at nodes) ns ≡ take (length ns) table) where
  one_named : (k : ℕ) (t : Tree) → k < length ns → slice_get table k ≡ Some t → IsNamed nodes (slice_index_or ns k 0) t
  one_named k t h e = mapped_at nodes ns there k t (ap (λ ts. slice_get ts k) terms ∙ get_taken table (length ns) k t h e)

  pub args_named : (ks : List ℕ) (ts : List Tree) → AllByRecursion (λ k. k < length ns) ks → firsts_at table ks ≡ Some ts
      → AreNamed nodes (map (λ k. slice_index_or ns k 0) ks) (trees_of ts)
  args_named [] [] a e = tt
  args_named [] (t ∷ ts) a e = absurd (cc)
  args_named (k ∷ ks) ts a e = go (first_at table k) refl (firsts_at table ks) refl ts e (λ us f. args_named ks us a.1 f)
    where
      go : (o : Option Tree) → first_at table k ≡ o → (p : Option (List Tree)) → firsts_at table ks ≡ p → (ts : List Tree) → firsts_at table (k ∷ ks) ≡ Some ts
          → ((us : List Tree) → firsts_at table ks ≡ Some us → AreNamed nodes (map (λ k. slice_index_or ns k 0) ks) (trees_of us))
          → AreNamed nodes (slice_index_or ns k 0 ∷ map (λ k. slice_index_or ns k 0) ks) (trees_of ts)
      go None f p g ts e ih = absurd (let z = rw f at e in cc)
      go (Some t) f None g ts e ih = absurd (let z = rw (f, g) at e in cc)
      go (Some t) f (Some us) g ts e ih =
          let z : Some (t ∷ us) ≡ Some ts = rw (f, g) at e in
          let same : t ∷ us ≡ ts = cc in
          let P : List Tree → Type 0 = λ xs. AreNamed nodes (slice_index_or ns k 0 ∷ map (λ k. slice_index_or ns k 0) ks) (trees_of xs) in
          subst P same (one_named k t a.0 (first_parts table k t f).0, ih us g)

pub all_taken : (count : ℕ) (ns : List ℕ) → AllByRecursion (λ n. n < count) ns → (ks : List ℕ) → AllByRecursion (λ k. k < length ns) ks
    → AllByRecursion (λ n. n < count) (map (λ k. slice_index_or ns k 0) ks)
all_taken count ns a [] b = tt
all_taken count ns a (k ∷ ks) b = (one ns k a b.0, all_taken count ns a ks b.1)
  where
    one : (ns : List ℕ) (k : ℕ) → AllByRecursion (λ n. n < count) ns → k < length ns → slice_index_or ns k 0 < count
    one [] k a l = absurd (omega (arith, l))
    one (n ∷ ns) zero a l = a.0
    one (n ∷ ns) (suc k) a l = one ns k a.1 (omega (arith, l))

pub same_length : (f : ℕ → ℕ) (ks : List ℕ) → length (map f ks) ≡ length ks
same_length f ks = length-map ks f

-- ---- one line after another

-- these are the numbers of the first i terms
pub record AreLines (table nodes : List Tree) (i : ℕ) (ns : List ℕ) : Type 0 where
  pub there : AllByRecursion (λ n. n < length nodes) ns
  pub count : length ns ≡ i
  pub terms : map (tree_at nodes) ns ≡ take i table

pub lines_none : (table nodes : List Tree) → AreLines table nodes 0 []
lines_none table nodes = record { there = tt; count = refl; terms = refl }

-- of so many lines as there are numbers
pub lines_counted : (table nodes : List Tree) (i : ℕ) (ns : List ℕ) → AreLines table nodes i ns → map (tree_at nodes) ns ≡ take (length ns) table
lines_counted table nodes i ns h = h.terms ∙ ap (λ k. take k table) (sym h.count)

one_below : (nodes : List Tree) (ns : List ℕ) (n : ℕ) → AllByRecursion (λ m. m < length nodes) ns → n < length nodes
    → AllByRecursion (λ m. m < length nodes) (ns ++ n ∷ [])
one_below nodes [] n a h = (h, tt)
one_below nodes (m ∷ ns) n a h = (a.0, one_below nodes ns n a.1 h)

pub lines_next : (table old new : List Tree) (g : Grows old new) (i n : ℕ) (t : Tree) (ns ms : List ℕ) → slice_get table i ≡ Some t → IsNamed new n t
    → ms ≡ ns ++ n ∷ [] → AreLines table old i ns → AreLines table new (i + 1) ms
lines_next table old new g i n t ns ms e named put h =
    let within : i < length table = slice_get_within table i t e in
    let long = length-append ns (n ∷ []) in
    record {
      there = rw put (one_below new ns n (all_later old new g ns h.there) (named_below new n t named));
      count = ap length put ∙ omega (arith, long, h.count);
      terms =
          ap (map (tree_at new)) put ∙ map-append (tree_at new) ns (n ∷ [])
          ∙ ap (λ ts. ts ++ tree_at new n ∷ []) (trees_later old new ns g h.there ∙ h.terms)
          ∙ ap (λ x. take i table ++ x ∷ []) (named_tree new n t named ∙ sym (get_or_from_slice_get table i t t e))
          ∙ sym (take_more table i t within);
    }

pub lines_all : (table nodes : List Tree) (i : ℕ) (ns : List ℕ) → length table ≤ i → AreLines table nodes i ns → map (tree_at nodes) ns ≡ table
lines_all table nodes i ns h k = k.terms ∙ take_all i table h
