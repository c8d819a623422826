-- Pairs of token lists, read one after another.
use Rattle.std.proofs.Common.{◌≡◌, ◌≢◌, ◌⊎◌, ◌++◌, ℕ, List, [], ◌∷◌, map, length, Bool, true, false, ◌||◌, inl, inr, sym, ◌∙◌, ap, subst, refl, arith, append_assoc, append-nil}
use Rattle.std.specs.Prelude.{Result, Ok, Err, IfOk}
use Rattle.std.specs.declared.alloc.AllocError.{AllocError}
use Rattle.std.proofs.lemmas.List.{length-append}
use Rattle.circ_term.specs.Tree.{Tree, trees_of}
use Rattle.circ_chart.specs.Few.{Differ}
use Rattle.circ_chart.proofs.Sets.{enough_all, enough_chain}
use Rattle.circ_theory.specs.Signature.{Signature}
use Rattle.circ_theory.specs.Theory.{Pair, pair_with, Declared}
use Rattle.circ_theory.specs.Variables as plain
use Rattle.circ_theory.specs.Variables.{AreNumberedFrom}
use Rattle.circ_theory.proofs.Numbering.{numbered_are}
use Rattle.circ_mixfix.specs.Named.{Named, NamedVariable, numbered, seen_in, seen_in_list, place_from}
use Rattle.circ_mixfix.specs.Symbols.{every}
use Rattle.circ_mixfix.specs.Readings.{SpellTwos, numbered_list, ReadsTwos}
use Rattle.circ_mixfix.specs.Coding.{named_by}
use Rattle.circ_mixfix.specs.Found.{In, Image, KeepsReadings, AreTwosInOrder, sides_of_pairs}
use Rattle.circ_mixfix.specs.Choices.{names_of, IsChoice, HaveNothing, first_in, last_in, is_two, is_some, IsAdded, KeepsSpelled, OneOf, HaveChosen, ReadsOn}
use Rattle.circ_mixfix.specs.declared.few.Few.{Few}
use Rattle.circ_mixfix.specs.declared.few.Few.TheVariants.{Empty, One, Two}
use Rattle.circ_mixfix.specs.declared.choices.Choice.{Choice}
use Rattle.circ_mixfix.specs.declared.choices.Choices.{Choices}
use Rattle.circ_mixfix.proofs.Names.{spellings_apart}
use Rattle.circ_mixfix.proofs.Naming.{in_places, first_in_order}
use Rattle.circ_mixfix.proofs.Order.{trees_apart}

-- lists with ends of one length
append_same : {X : Type 0} (xs ys fs gs : List X) → length fs ≡ length gs → xs ++ fs ≡ ys ++ gs → (xs ≡ ys) × (fs ≡ gs)
append_same [] [] fs gs l e = (refl, e)
append_same [] (y ∷ ys) fs gs l e = absurd (omega (arith, l, ap length e, length-append ys gs))
append_same (x ∷ xs) [] fs gs l e = absurd (omega (arith, l, ap length e, length-append xs fs))
append_same {X} (x ∷ xs) (y ∷ ys) fs gs l e =
    let a : x ≡ y = cc e in
    let b : xs ++ fs ≡ ys ++ gs = cc e in
    let r = append_same xs ys fs gs l b in
    (ap (λ z. z ∷ xs) a ∙ ap (λ zs. y ∷ zs) r.0, r.1)

module _ (sig : Signature) (vars : List Declared) where
  abbrev Lists : Type 0
  Lists = List (List (List ℕ))

  -- what is spelled is told apart by how it is numbered
  twos_apart : (lists : Lists) (qs ps : List Named) (ν μ : List ℕ → ℕ → ℕ) → SpellTwos sig vars lists qs → SpellTwos sig vars lists ps → map (numbered ν) qs ≡ map (numbered μ) ps → qs ≡ ps
  twos_apart [] [] [] ν μ a b e = refl
  twos_apart [] [] (p ∷ ps) ν μ a b e = absurd b
  twos_apart [] (q ∷ qs) ps ν μ a b e = absurd a
  twos_apart (l ∷ []) qs ps ν μ a b e = absurd a
  twos_apart (l ∷ r ∷ lists) [] ps ν μ a b e = absurd a
  twos_apart (l ∷ r ∷ lists) (q ∷ []) ps ν μ a b e = absurd a
  twos_apart (l ∷ r ∷ lists) (q ∷ u ∷ qs) [] ν μ a b e = absurd b
  twos_apart (l ∷ r ∷ lists) (q ∷ u ∷ qs) (p ∷ []) ν μ a b e = absurd b
  twos_apart (l ∷ r ∷ lists) (q ∷ u ∷ qs) (p ∷ v ∷ ps) ν μ a b e =
      let f : numbered ν q ≡ numbered μ p = cc e in
      let g : numbered ν u ≡ numbered μ v = cc e in
      let h : map (numbered ν) qs ≡ map (numbered μ) ps = cc e in
      let x = spellings_apart sig vars false l every a.0.sort every b.0.sort q p ν μ a.0.spells_left b.0.spells_left f in
      let y = spellings_apart sig vars false r every a.0.sort every b.0.sort u v ν μ a.0.spells_right b.0.spells_right g in
      ap (λ z. z ∷ u ∷ qs) x ∙ ap (λ z. p ∷ z ∷ qs) y ∙ ap (λ zs. p ∷ v ∷ zs) (twos_apart lists qs ps ν μ a.1 b.1 h)

  two_long : (l r : List (List ℕ)) (fs : List Named) → SpellTwos sig vars (l ∷ r ∷ []) fs → length fs ≡ 2
  two_long l r [] h = absurd h
  two_long l r (q ∷ []) h = absurd h
  two_long l r (q ∷ u ∷ []) h = refl
  two_long l r (q ∷ u ∷ v ∷ fs) h = absurd h.1

  -- the first two and the others
  two_joined : (l r : List (List ℕ)) (rest : Lists) (fs qs : List Named) → SpellTwos sig vars (l ∷ r ∷ []) fs → SpellTwos sig vars rest qs → SpellTwos sig vars (l ∷ r ∷ rest) (fs ++ qs)
  two_joined l r rest [] qs h k = absurd h
  two_joined l r rest (q ∷ []) qs h k = absurd h
  two_joined l r rest (q ∷ u ∷ []) qs h k = (h.0, k)
  two_joined l r rest (q ∷ u ∷ v ∷ fs) qs h k = absurd h.1

  record Cut (l r : List (List ℕ)) (rest : Lists) (us : List Named) : Type 0 where
    front : List Named
    back : List Named
    is : us ≡ front ++ back
    spells_front : SpellTwos sig vars (l ∷ r ∷ []) front
    spells_back : SpellTwos sig vars rest back

  two_cut : (l r : List (List ℕ)) (rest : Lists) (us : List Named) → SpellTwos sig vars (l ∷ r ∷ rest) us → Cut l r rest us
  two_cut l r rest [] h = absurd h
  two_cut l r rest (q ∷ []) h = absurd h
  two_cut l r rest (q ∷ u ∷ us) h = record { front = q ∷ u ∷ []; back = us; is = refl; spells_front = (h.0, tt); spells_back = h.1 }

  -- nothing is read yet
  pub begun : (all : Lists) (c : Choices) → HaveNothing c → HaveChosen sig vars all all c
  begun all c h = record {
    first = [];
    second = [];
    is_first = h.0;
    is_second = h.1;
    from_first = λ qs k. k;
    from_second = λ qs k. k;
    all_begin = λ ps k. (ps, k, λ d. refl);
    apart = λ t. absurd (let z = sym t ∙ h.2 in cc z);
  }

  module _ (l r : List (List ℕ)) (all rest : Lists) (ws : List (List ℕ)) (old new : Choices) where
    abbrev Two_spelled : List Named → Type 0
    Two_spelled = SpellTwos sig vars (l ∷ r ∷ [])

    abbrev names : List Tree → List Named
    names = map (named_by ws)

    onward : (first fs : List Named) → Two_spelled fs → ((qs : List Named) → SpellTwos sig vars (l ∷ r ∷ rest) qs → SpellTwos sig vars all (first ++ qs))
        → (qs : List Named) → SpellTwos sig vars rest qs → SpellTwos sig vars all ((first ++ fs) ++ qs)
    onward first fs h from qs k = let P : List Named → Type 0 = SpellTwos sig vars all in subst P (sym (append_assoc first fs qs)) (from (fs ++ qs) (two_joined l r rest fs qs h k))

    or_false : (a b : Bool) → (a || b) ≡ false → (a ≡ false) × (b ≡ false)
    or_false true b e = absurd (cc)
    or_false false b e = (refl, e)

    or_true : (a b : Bool) → (a || b) ≡ true → (a ≡ true) ⊎ (b ≡ true)
    or_true true b e = inl refl
    or_true false b e = inr e

    -- what is found, where it is some
    record Both (found : Few) : Type 0 where
      spells_first : Two_spelled (names (first_in found))
      spells_last : Two_spelled (names (last_in found))
      only : is_two found ≡ false → (fs : List Named) → Two_spelled fs → fs ≡ names (first_in found)
      differ : is_two found ≡ true → names (first_in found) ≢ names (last_in found)

    both : (found : Few) → is_some found ≡ true → KeepsSpelled sig vars l r ws found → Both found
    both Empty s k = absurd (cc)
    both (One a) s k = record {
      spells_first = k.enough.sound (names a.terms.items) here;
      spells_last = k.enough.sound (names a.terms.items) here;
      only = λ t fs h. one fs (k.enough.enough fs h);
      differ = λ t. absurd (cc);
    }
      where
        here : Image names (In (One a)) (names a.terms.items)
        here = record { from = a.terms.items; has = refl; is = refl }

        is_one : (fs : List Named) → Image names (In (One a)) fs → fs ≡ names a.terms.items
        is_one fs i = i.is ∙ ap names i.has

        one : (fs : List Named) → (Image names (In (One a)) fs ⊎ Differ (Image names (In (One a)))) → fs ≡ names a.terms.items
        one fs (inl i) = is_one fs i
        one fs (inr d) = absurd (d.apart (is_one d.first d.in_first ∙ sym (is_one d.second d.in_second)))
    both (Two a b) s k = record {
      spells_first = k.enough.sound (names a.terms.items) (record { from = a.terms.items; has = inl refl; is = refl });
      spells_last = k.enough.sound (names b.terms.items) (record { from = b.terms.items; has = inr refl; is = refl });
      only = λ t. absurd (cc);
      differ = λ t e. trees_apart (trees_of a.terms.items) (trees_of b.terms.items) k.ordered (ap trees_of (k.apart a.terms.items b.terms.items (inl refl) (inr refl) e));
    }

    none : (found : Few) → is_some found ≡ false → KeepsSpelled sig vars l r ws found → (fs : List Named) → Two_spelled fs → ⊥
    none Empty s k fs h = go (k.enough.enough fs h)
      where
        go : (Image names (In Empty) fs ⊎ Differ (Image names (In Empty))) → ⊥
        go (inl i) = i.has
        go (inr d) = d.in_first.has
    none (One a) s k fs h = absurd (cc)
    none (Two a b) s k fs h = absurd (cc)

    -- one pair more
    pub added : (found : Few) (b : Bool) → KeepsSpelled sig vars l r ws found → IsAdded ws found old new b → HaveChosen sig vars all (l ∷ r ∷ rest) old → ReadsOn sig vars all rest new b
    added found false k i h = λ ps t. let u = h.all_begin ps t in let x = two_cut l r rest u.0 u.1 in none found i k x.front x.spells_front
    added found true k i h = record {
      first = h.first ++ fs;
      second = h.second ++ gs;
      is_first = i.1.first h.first h.is_first;
      is_second = i.1.second h.second h.is_second;
      from_first = onward h.first fs w.spells_first h.from_first;
      from_second = onward h.second gs w.spells_last h.from_second;
      all_begin = begin;
      apart = λ t. go (or_true old.differ (is_two found) (sym i.1.differ ∙ t));
    }
      where
        w : Both found
        w = both found i.0 k

        fs : List Named
        fs = names (first_in found)

        gs : List Named
        gs = names (last_in found)

        begin : (ps : List Named) → SpellTwos sig vars all ps → (qs : List Named) × SpellTwos sig vars rest qs × (new.differ ≡ false → ps ≡ (h.first ++ fs) ++ qs)
        begin ps t =
            let u = h.all_begin ps t in
            let x = two_cut l r rest u.0 u.1 in (
              x.back,
              x.spells_back,
              λ d.
                  let o = or_false old.differ (is_two found) (sym i.1.differ ∙ d) in
                  u.2 o.0 ∙ ap (λ z. h.first ++ z) (x.is ∙ ap (λ z. z ++ x.back) (w.only o.1 x.front x.spells_front)) ∙ sym (append_assoc h.first fs x.back),
            )

        ends : h.first ++ fs ≡ h.second ++ gs → (h.first ≡ h.second) × (fs ≡ gs)
        ends e = append_same h.first h.second fs gs (two_long l r fs w.spells_first ∙ sym (two_long l r gs w.spells_last)) e

        go : (old.differ ≡ true) ⊎ (is_two found ≡ true) → h.first ++ fs ≢ h.second ++ gs
        go (inl t) e = h.apart t (ends e).0
        go (inr t) e = w.differ t (ends e).1

    pub added_if : (found : Few) (o : Result Bool AllocError) → KeepsSpelled sig vars l r ws found → IfOk o (IsAdded ws found old new) → HaveChosen sig vars all (l ∷ r ∷ rest) old
        → IfOk o (ReadsOn sig vars all rest new)
    added_if found (Ok b) k i h = added found b k i h
    added_if found (Err e) k i h = tt

  -- an odd number of lists spells nothing
  pub odd : (all : Lists) (l : List (List ℕ)) (c : Choices) → HaveChosen sig vars all (l ∷ []) c → (ps : List Named) → SpellTwos sig vars all ps → ⊥
  odd all l c h ps t = (h.all_begin ps t).1

  read_choice : (c : Choice) (qs : List Named) → IsChoice c qs → c.terms.items ≡ numbered_list qs
  read_choice c qs h = h.terms [] ∙ ap (λ vs. map (numbered (place_from 0 vs)) qs) (append-nil (names_of c) ∙ h.seen)

  module _ (all : Lists) (c : Choices) (h : HaveChosen sig vars all [] c) where
    first_spells : SpellTwos sig vars all h.first
    first_spells = let P : List Named → Type 0 = SpellTwos sig vars all in subst P (append-nil h.first) (h.from_first [] tt)

    second_spells : SpellTwos sig vars all h.second
    second_spells = let P : List Named → Type 0 = SpellTwos sig vars all in subst P (append-nil h.second) (h.from_second [] tt)

    first_read : ReadsTwos sig vars all c.first.terms.items
    first_read = record { spelled = h.first; spells = first_spells; are = read_choice c.first h.first h.is_first }

    second_read : ReadsTwos sig vars all c.second.terms.items
    second_read = record { spelled = h.second; spells = second_spells; are = read_choice c.second h.second h.is_second }

    no_more : (us : List Named) → SpellTwos sig vars [] us → us ≡ []
    no_more [] t = refl
    no_more (u ∷ us) t = absurd t

    abbrev Either : List Tree → Type 0
    Either = OneOf c.first.terms.items c.second.terms.items c.differ

    abbrev Reads : List Tree → Type 0
    Reads = ReadsTwos sig vars all

    there : (ts : List Tree) → Either ts → Reads ts
    there ts (inl q) = subst Reads (sym q) first_read
    there ts (inr q) = subst Reads (sym q.1) second_read

    differ : c.differ ≡ true → Differ Either
    differ d = record {
      first = c.first.terms.items;
      second = c.second.terms.items;
      in_first = inl refl;
      in_second = inr (d, refl);
      apart = λ q. h.apart d (twos_apart all h.first h.second (place_from 0 (seen_in_list h.first [])) (place_from 0 (seen_in_list h.second [])) first_spells second_spells
          (sym (read_choice c.first h.first h.is_first) ∙ q ∙ read_choice c.second h.second h.is_second));
    }

    enough : (ts : List Tree) → Reads ts → (b : Bool) → c.differ ≡ b → Either ts ⊎ Differ Either
    enough ts t true d = inr (differ d)
    enough ts t false d =
        let u = h.all_begin t.spelled t.spells in
        inl (inl (t.are ∙ ap numbered_list (u.2 d ∙ ap (λ z. h.first ++ z) (no_more u.0 u.1) ∙ append-nil h.first) ∙ sym (read_choice c.first h.first h.is_first)))

    -- the choices for all lists are enough
    pub all_chosen : (found : Few) → KeepsReadings found Either → KeepsReadings found Reads
    all_chosen found k = record { enough = enough_chain (In found) Either Reads k.enough (record { sound = there; enough = λ ts t. enough ts t c.differ refl }); ordered = k.ordered }

  -- nothing is read
  pub none_chosen : (all : Lists) → ((ps : List Named) → SpellTwos sig vars all ps → ⊥) → KeepsReadings Empty (ReadsTwos sig vars all)
  none_chosen all h = record { enough = enough_all (In Empty) (ReadsTwos sig vars all) (λ ts i. absurd i) (λ ts t. absurd (h t.spelled t.spells)); ordered = tt }

  -- the terms as pairs, which are numbered in order
  record InPairs (qs : List Named) (vs whole : List NamedVariable) : Type 0 where
    pairs : List Pair
    are : map (numbered (place_from 0 whole)) qs ≡ sides_of_pairs pairs
    seen : plain.seen_in_pairs pairs (in_places vs) ≡ in_places (seen_in_list qs vs)

  in_pairs : (lists : Lists) (qs : List Named) (vs whole : List NamedVariable) → SpellTwos sig vars lists qs → whole ≡ seen_in_list qs vs → InPairs qs vs whole
  in_pairs [] [] vs whole h e = record { pairs = []; are = refl; seen = refl }
  in_pairs [] (q ∷ qs) vs whole h e = absurd h
  in_pairs (l ∷ []) qs vs whole h e = absurd h
  in_pairs (l ∷ r ∷ lists) [] vs whole h e = absurd h
  in_pairs (l ∷ r ∷ lists) (q ∷ []) vs whole h e = absurd h
  in_pairs (l ∷ r ∷ lists) (q ∷ u ∷ qs) vs whole h e =
      let ih = in_pairs lists qs (seen_in u (seen_in q vs)) whole h.1 e in
      let t = numbered (place_from 0 whole) q in
      let s = numbered (place_from 0 whole) u in
      record {
        pairs = pair_with t s ∷ ih.pairs;
        are = ap (λ z. t ∷ s ∷ z) ih.are;
        seen = ap (λ z. plain.seen_in_pairs ih.pairs (plain.seen_in s z)) (first_in_order q (u ∷ qs) vs whole e)
            ∙ ap (plain.seen_in_pairs ih.pairs) (first_in_order u qs (seen_in q vs) whole e) ∙ ih.seen;
      }

  pub twos_in_order : (lists : Lists) (ts : List Tree) → ReadsTwos sig vars lists ts → AreTwosInOrder ts
  twos_in_order lists ts r =
      let p = in_pairs lists r.spelled [] (seen_in_list r.spelled []) r.spells refl in
      let P : List plain.Variable → Type 0 = AreNumberedFrom 0 in
      (p.pairs, r.are ∙ p.are, subst P (sym p.seen) (numbered_are 0 (map (λ v. v.sort) (seen_in_list r.spelled []))))
