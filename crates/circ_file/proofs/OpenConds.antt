-- Conditions of links that are open.
use Rattle.std.specs.Prelude.{◌≡◌, ℕ, ◌+◌, ◌-◌, suc, length, Bool, true, false, List, [], ◌∷◌, ◌++◌, map, Option, Some, None, is_some, refl}
use Rattle.std.specs.Option.{option_map, option_map_or}
use Rattle.std.specs.List.{slice_get}
use Rattle.std.proofs.Common.{sym, ◌∙◌, ap, arith, append-nil, Vec, Global}
use Rattle.std.proofs.lemmas.List.{map_push}
use Rattle.circ_term.specs.Tree.{Tree}
use Rattle.circ_proof.specs.Plain.{LinkOf, ChainOf, more_chains, row_of, plain_link, plain_links, plain_chain, plain_chains}
use Rattle.circ_proof.specs.declared.links.Link.{Link}
use Rattle.circ_proof.specs.declared.links.Chain.{Chain}
use Rattle.circ_line.specs.Line.{if_line, same_line}
use Rattle.circ_grammar.specs.Machine.{push_chain, add_chain, in_last, in_right, chain_of, empty}
use Rattle.circ_grammar.specs.Now.{Now, Joining, next_if, next_same, give_chain_now}
use Rattle.circ_file.specs.Conds.{nested, GivesChain}
use Rattle.circ_file.specs.View.{now_at, now_outside, now_of, queue_of, parts_at, splits_in, IsMachineAt, MachineTakes, Moves}
use Rattle.circ_file.specs.declared.machine.Mode.{Mode}
use Rattle.circ_file.specs.declared.machine.Mode.TheVariants as mode
use Rattle.circ_file.specs.declared.machine.Machine.{Machine}

pub nested_last : (n : Now) (bs : List (ChainOf ℕ)) (c : ChainOf ℕ) → nested n (bs ++ c ∷ []) ≡ Joining (nested n bs) c
nested_last n [] c = refl
nested_last n (b ∷ bs) c = nested_last (Joining n b) bs c

-- a chain of a condition more

pub chains_push : (cs : List (Chain ℕ)) (c : Chain ℕ) → plain_chains (cs ++ c ∷ []) ≡ push_chain (plain_chains cs) (plain_chain c)
chains_push [] c = refl
chains_push (d ∷ cs) c = ap (more_chains (row_of (plain_chain d).left) (row_of (plain_chain d).right)) (chains_push cs c)

pub last_given : (ls : List (LinkOf ℕ)) (l : LinkOf ℕ) (c : ChainOf ℕ) → in_last (ls ++ l ∷ []) c ≡ option_map (λ m. ls ++ m ∷ []) (add_chain l c)
last_given [] l c = refl
last_given (x ∷ []) l c = go (add_chain l c)
  where
    go : (o : Option (LinkOf ℕ)) → option_map (λ r. x ∷ r) (option_map (λ m. m ∷ []) o) ≡ option_map (λ m. x ∷ m ∷ []) o
    go None = refl
    go (Some m) = refl
last_given (x ∷ y ∷ ls) l c = ap (option_map (λ r. x ∷ r)) (last_given (y ∷ ls) l c) ∙ go (add_chain l c)
  where
    go : (o : Option (LinkOf ℕ)) → option_map (λ r. x ∷ r) (option_map (λ m. y ∷ ls ++ m ∷ []) o) ≡ option_map (λ m. x ∷ y ∷ ls ++ m ∷ []) o
    go None = refl
    go (Some m) = refl

-- whether there is a result, whatever is made of it
pub some_mapped : {A B : Type 0} (f : A → B) (o : Option A) → is_some (option_map f o) ≡ is_some o
some_mapped f None = refl
some_mapped f (Some x) = refl

-- a chain's links on its right, where there are some
pub chain_right : (ls : List (LinkOf ℕ)) (rs : List (LinkOf ℕ)) (c : ChainOf ℕ) → (rs ≡ [] → ⊥) → in_right ls rs c ≡ option_map (λ ms. chain_of ls ms) (in_last rs c)
chain_right ls [] c n = absurd (n refl)
chain_right ls (r ∷ rs) c n = refl

-- the mode in which a condition begins has the last link
pub opens_outside : (k : Mode) (m : Machine) → is_some (give_chain_now (now_at k m) empty) ≡ true → (k ≡ mode.Joining → ⊥) → now_outside k m ≡ now_at k m
opens_outside mode.Certifying m e n = refl
opens_outside mode.Simplifying m e n = refl
opens_outside mode.Reducing m e n = refl
opens_outside mode.Joining m e n = absurd (n refl)
opens_outside mode.Begin m e n = absurd (cc)
opens_outside mode.Tabling m e n = absurd (cc)
opens_outside mode.Placing m e n = absurd (cc)
opens_outside mode.Opened m e n = absurd (cc)
opens_outside mode.Stepping m e n = absurd (cc)
opens_outside mode.Closed m e n = absurd (cc)
opens_outside mode.Ended m e n = absurd (cc)

some_there : {X : Type 0} (o : Option X) → is_some o ≡ true → (x : X) × (o ≡ Some x)
some_there None e = absurd (cc)
some_there (Some x) e = (x, refl)

none_there : {X : Type 0} (o : Option X) → is_some o ≡ false → o ≡ None
none_there None e = refl
none_there (Some x) e = absurd (cc)

-- an `if` after a link that can have a condition more, and after one that can not
pub if_opens : (n : Now) → is_some (give_chain_now n empty) ≡ true → next_if n ≡ Some (Joining n empty)
if_opens n e = let x = some_there (give_chain_now n empty) e in ap (option_map (λ m. Joining n empty)) x.1

pub if_refused : (n : Now) → is_some (give_chain_now n empty) ≡ false → next_if n ≡ None
if_refused n e = ap (option_map (λ m. Joining n empty)) (none_there (give_chain_now n empty) e)

mapped_twice : {A B C : Type 0} (f : B → C) (g : A → B) (o : Option A) → option_map f (option_map g o) ≡ option_map (λ x. f (g x)) o
mapped_twice f g None = refl
mapped_twice f g (Some x) = refl

-- the last of some links is taken out, and made anew
pub links_given : (all ls : List (Link ℕ)) (l : Link ℕ) (c : ChainOf ℕ) (o : Option (Link ℕ)) → all ≡ ls ++ l ∷ []
    → option_map plain_link o ≡ add_chain (plain_link l) c → in_last (plain_links all) c ≡ option_map (λ m. plain_links ls ++ plain_link m ∷ []) o
links_given all ls l c o e h =
    ap (λ x. in_last (plain_links x) c) e ∙ ap (λ x. in_last x c) (map_push plain_link ls l) ∙ last_given (plain_links ls) (plain_link l) c
    ∙ ap (option_map (λ m. plain_links ls ++ m ∷ [])) (sym h) ∙ mapped_twice (λ m. plain_links ls ++ m ∷ []) plain_link o

pub after_last_link : (ls : List (Link ℕ)) (c : ChainOf ℕ)
    → option_map_or (λ l. is_some (add_chain (plain_link l) c)) (slice_get ls (length ls - 1)) false ≡ is_some (in_last (plain_links ls) c)
after_last_link [] c = refl
after_last_link (l ∷ []) c = sym (some_mapped (λ m. m ∷ []) (add_chain (plain_link l) c))
after_last_link (l ∷ m ∷ ls) c =
    let e : length (l ∷ m ∷ ls) - 1 ≡ length ls + 1 = omega arith in
    let f : length (m ∷ ls) - 1 ≡ length ls = omega arith in
    ap (λ n. option_map_or (λ x. is_some (add_chain (plain_link x) c)) (slice_get (l ∷ m ∷ ls) n) false) e
    ∙ further (length ls) ∙ sym (ap (λ n. option_map_or (λ x. is_some (add_chain (plain_link x) c)) (slice_get (m ∷ ls) n) false) f)
    ∙ after_last_link (m ∷ ls) c ∙ sym (some_mapped (λ r. plain_link l ∷ r) (in_last (plain_links (m ∷ ls)) c))
  where
    further : (n : ℕ) → option_map_or (λ x. is_some (add_chain (plain_link x) c)) (slice_get (l ∷ m ∷ ls) (n + 1)) false
        ≡ option_map_or (λ x. is_some (add_chain (plain_link x) c)) (slice_get (m ∷ ls) n) false
    further n = let e : n + 1 ≡ suc n = omega arith in rw e refl

pub nested_splits : (n : Now) (bs : List (ChainOf ℕ)) → splits_in (nested n bs) ≡ splits_in n
nested_splits n [] = refl
nested_splits n (b ∷ bs) = nested_splits (Joining n b) bs

-- a machine inside conditions

outside_same : (k : Mode) (m : Machine) (es : Vec (Chain ℕ) Global) (d : Chain ℕ) → now_outside k (record m { conds = es; cond = d }) ≡ now_outside k m
outside_same mode.Certifying m es d = refl
outside_same mode.Simplifying m es d = refl
outside_same mode.Reducing m es d = refl
outside_same _ m es d = refl

kept_inside : (k : Mode) (ts : List Tree) (m : Machine) → k ≡ mode.Joining → IsMachineAt k ts m
kept_inside mode.Joining ts m e = tt
kept_inside _ ts m e = absurd (cc)

abbrev outside : Machine → Now
outside m = now_outside m.base m

abbrev around : Machine → Now
around m = nested (outside m) (map plain_chain m.conds.items)

now_inside : (m : Machine) → m.mode ≡ mode.Joining → now_of m ≡ Joining (around m) (plain_chain m.cond)
now_inside m e = ap (λ k. now_at k m) e

module _ (ts : List Tree) (m : Machine) (es : Vec (Chain ℕ) Global) (d : Chain ℕ) (e : m.mode ≡ mode.Joining) where
  now_new : now_of (record m { conds = es; cond = d }) ≡ Joining (nested (outside m) (map plain_chain es.items)) (plain_chain d)
  now_new = now_inside (record m { conds = es; cond = d }) e
      ∙ ap (λ x. Joining (nested x (map plain_chain es.items)) (plain_chain d)) (outside_same m.base m es d)

  -- one more is open
  pub opens_inside : is_some (give_chain_now (now_of m) empty) ≡ true → es.items ≡ m.conds.items ++ m.cond ∷ [] → plain_chain d ≡ empty
      → MachineTakes ts m if_line (record m { conds = es; cond = d })
  opens_inside h a b =
      let same : Joining (now_of m) empty ≡ Joining (nested (outside m) (map plain_chain es.items)) (plain_chain d)
      = ap (λ x. Joining x empty) (now_inside m e ∙ sym (nested_last (outside m) (map plain_chain m.conds.items) (plain_chain m.cond))
      ∙ ap (nested (outside m)) (sym (ap (map plain_chain) a ∙ map_push plain_chain m.conds.items m.cond)))
      ∙ ap (Joining (nested (outside m) (map plain_chain es.items))) (sym b) in
      record {
        next = if_opens (now_of m) h ∙ ap (λ x. Some x) (same ∙ sym now_new);
        queue = sym (append-nil (queue_of m));
        places = refl;
        kept = kept_inside m.mode ts (record m { conds = es; cond = d }) e;
      }

  -- the innermost is whole, and goes to the one that it is inside
  pub ends_inside : (t : Bool) (o c : Chain ℕ) → m.conds.items ≡ es.items ++ o ∷ [] → c ≡ m.cond → GivesChain t (plain_chain o) (plain_chain c) (plain_chain d)
      → Moves t ts m same_line (record m { conds = es; cond = d })
  ends_inside t o c a b g = go t g
    where
      at : now_of m ≡ Joining (Joining (nested (outside m) (map plain_chain es.items)) (plain_chain o)) (plain_chain c)
      at = now_inside m e ∙ ap (λ x. Joining x (plain_chain m.cond)) (ap (nested (outside m)) (ap (map plain_chain) a ∙ map_push plain_chain es.items o)
          ∙ nested_last (outside m) (map plain_chain es.items) (plain_chain o))
          ∙ ap (λ x. Joining (Joining (nested (outside m) (map plain_chain es.items)) (plain_chain o)) (plain_chain x)) (sym b)

      go : (t : Bool) → GivesChain t (plain_chain o) (plain_chain c) (plain_chain d) → Moves t ts m same_line (record m { conds = es; cond = d })
      go true g = record {
        next = ap next_same at ∙ ap (option_map (Joining (nested (outside m) (map plain_chain es.items)))) g ∙ ap (λ x. Some x) (sym now_new);
        queue = sym (append-nil (queue_of m)) ∙ ap (λ x. queue_of m ++ parts_at ts x same_line) (sym at);
        places = refl;
        kept = kept_inside m.mode ts (record m { conds = es; cond = d }) e;
      }
      go false g = ap next_same at ∙ ap (option_map (Joining (nested (outside m) (map plain_chain es.items)))) g
