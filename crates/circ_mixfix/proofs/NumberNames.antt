-- Numbering by numbers of names is numbering by names.
use Rattle.std.proofs.Common.{◌≡◌, ◌≢◌, ◌<◌, ◌+◌, ◌++◌, ℕ, List, [], ◌∷◌, map, length, Bool, true, false, ◌==◌, ◌&&◌, ◌||◌, nat_eq, Some, sym, ◌∙◌, ap, refl}
use Rattle.std.specs.Prelude.{if◌then◌else◌}
use Rattle.std.specs.List.{list_any}
use Rattle.std.specs.Cmp.Lexicographic.{pointwise, bytes_decides}
use Rattle.std.proofs.lemmas.Bool.{eqb-true, eqb-false, eq-eqb, and_parts}
use Rattle.std.proofs.lemmas.List.{map-append}
use Rattle.circ_term.specs.Tree.{Tree, Trees, Var, App, none, more}
use Rattle.circ_term.specs.Substitution.{instance, instances}
use Rattle.circ_theory.specs.Names.{AreDifferent}
use Rattle.circ_theory.specs.Variables.{Variable, is_variable, seen, seen_in, seen_in_all}
use Rattle.circ_mixfix.specs.Named as named
use Rattle.circ_mixfix.specs.Named.{NamedVariable, is_named, numbered, all_numbered, place_from}
use Rattle.circ_mixfix.specs.Readings.{without_hole, numbers_of, reading_of}
use Rattle.circ_mixfix.specs.Coding.{text_at, named_by, all_named_by}
use Rattle.circ_mixfix.specs.WordLists.{BeginAlike}
use Rattle.circ_mixfix.specs.Numbering.{numbering, first_number, numbered_anew}
use Rattle.circ_mixfix.proofs.Coded.{AreKnown, AreAllKnown, text_is, text_listed}

module _ (ws : List (List ℕ)) (d : AreDifferent ws) where
  abbrev name_of : Variable → NamedVariable
  name_of v = record { name = text_at ws v.number; sort = v.sort }

  abbrev names : List Variable → List NamedVariable
  names vs = map name_of vs

  abbrev Known : List Variable → Type 0
  Known [] = Unit {0}
  Known (v ∷ vs) = (v.number < length ws) × Known vs

  -- numbers of different texts tell them apart
  same_text : (n m : ℕ) → n < length ws → m < length ws → pointwise nat_eq (text_at ws n) (text_at ws m) ≡ (n == m)
  same_text n m a b = go (pointwise nat_eq (text_at ws n) (text_at ws m)) refl (n == m) refl
    where
      go : (x : Bool) → pointwise nat_eq (text_at ws n) (text_at ws m) ≡ x → (y : Bool) → (n == m) ≡ y → x ≡ y
      go true e true f = refl
      go false e false f = refl
      go true e false f =
          let q = (bytes_decides (text_at ws n) (text_at ws m)).0 e in
          absurd (eqb-false n m f (d n m (text_at ws m) (text_listed ws n a ∙ ap (λ x. Some x) q) (text_listed ws m b)))
      go false e true f =
          let t = (bytes_decides (text_at ws n) (text_at ws m)).1 (ap (text_at ws) (eqb-true n m f)) in
          absurd (let z = sym t ∙ e in cc z)

  same_name : (v w : Variable) → v.number < length ws → w.number < length ws → is_named (name_of v) (name_of w) ≡ is_variable v w
  same_name v w a b = ap (λ x. x && (v.sort == w.sort)) (same_text v.number w.number a b)

  any_named : (v : Variable) (vs : List Variable) → v.number < length ws → Known vs → list_any (is_named (name_of v)) (names vs) ≡ list_any (is_variable v) vs
  any_named v [] a k = refl
  any_named v (w ∷ vs) a k =
      ap (λ x. x || list_any (is_named (name_of v)) (names vs)) (same_name v w a k.0) ∙ ap (λ x. is_variable v w || x) (any_named v vs a k.1)

  known_push : (vs : List Variable) (v : Variable) → Known vs → v.number < length ws → Known (vs ++ v ∷ [])
  known_push [] v k l = (l, tt)
  known_push (w ∷ vs) v k l = (k.0, known_push vs v k.1 l)

  seen_known : (v : Variable) (vs : List Variable) → Known vs → v.number < length ws → Known (seen v vs)
  seen_known v vs k l = go (list_any (is_variable v) vs)
    where
      go : (b : Bool) → Known (if b then vs else vs ++ v ∷ [])
      go true = k
      go false = known_push vs v k l

  seen_named : (v : Variable) (vs : List Variable) → Known vs → v.number < length ws
      → (if list_any (is_named (name_of v)) (names vs) then names vs else names vs ++ name_of v ∷ []) ≡ names (seen v vs)
  seen_named v vs k l = ap (λ b. if b then names vs else names vs ++ name_of v ∷ []) (any_named v vs l k) ∙ go (list_any (is_variable v) vs)
    where
      go : (b : Bool) → (if b then names vs else names vs ++ name_of v ∷ []) ≡ names (if b then vs else vs ++ v ∷ [])
      go true = refl
      go false = sym (map-append name_of vs (v ∷ []))

  mutual
    known_in : (t : Tree) (vs : List Variable) → AreKnown ws t → Known vs → Known (seen_in t vs)
    known_in (Var n s) vs a k = seen_known (record { number = n; sort = s }) vs k a
    known_in (App f s ts) vs a k = all_known_in ts vs a k

    all_known_in : (ts : Trees) (vs : List Variable) → AreAllKnown ws ts → Known vs → Known (seen_in_all ts vs)
    all_known_in none vs a k = k
    all_known_in (more t ts) vs a k = all_known_in ts (seen_in t vs) a.1 (known_in t vs a.0 k)

  mutual
    seen_names : (t : Tree) (vs : List Variable) → AreKnown ws t → Known vs → named.seen_in (named_by ws t) (names vs) ≡ names (seen_in t vs)
    seen_names (Var n s) vs a k = seen_named (record { number = n; sort = s }) vs k a
    seen_names (App f s ts) vs a k = all_seen_names ts vs a k

    all_seen_names : (ts : Trees) (vs : List Variable) → AreAllKnown ws ts → Known vs → named.seen_in_all (all_named_by ws ts) (names vs) ≡ names (seen_in_all ts vs)
    all_seen_names none vs a k = refl
    all_seen_names (more t ts) vs a k = ap (named.seen_in_all (all_named_by ws ts)) (seen_names t vs a.0 k) ∙ all_seen_names ts (seen_in t vs) a.1 (known_in t vs a.0 k)

  -- the number of a name, from k on
  abbrev number_in : Bool → ℕ → List NamedVariable → List ℕ → ℕ → ℕ
  number_in true k vs [] s = 0
  number_in true k vs (b ∷ n) s = place_from k (without_hole vs) (b ∷ n) s
  number_in false k vs n s = place_from k vs n s

  numbers_are : (hole : Bool) (vs : List NamedVariable) (n : List ℕ) (s : ℕ) → number_in hole (first_number hole) vs n s ≡ numbers_of hole vs n s
  numbers_are true vs [] s = refl
  numbers_are true vs (b ∷ n) s = refl
  numbers_are false vs n s = refl

  -- the hole's name is left out
  skip : (x : List ℕ) (s : ℕ) (vs : List NamedVariable) → x ≡ [] → without_hole (record { name = x; sort = s } ∷ vs) ≡ without_hole vs
  skip [] s vs e = refl
  skip (b ∷ x) s vs e = absurd (cc)

  keeps : (x : List ℕ) (s : ℕ) (vs : List NamedVariable) → x ≢ [] → without_hole (record { name = x; sort = s } ∷ vs) ≡ record { name = x; sort = s } ∷ without_hole vs
  keeps [] s vs h = absurd (h refl)
  keeps (b ∷ x) s vs h = refl

  number_skip : (k : ℕ) (x : List ℕ) (s : ℕ) (ns ms : List NamedVariable) → without_hole ns ≡ without_hole ms → number_in true k ns x s ≡ number_in true k ms x s
  number_skip k [] s ns ms e = refl
  number_skip k (b ∷ x) s ns ms e = ap (λ vs. place_from k vs (b ∷ x) s) e

  number_hit : (k : ℕ) (x : List ℕ) (s : ℕ) (ns rest : List NamedVariable) (m : NamedVariable) → x ≢ [] → without_hole ns ≡ m ∷ rest → is_named (record { name = x; sort = s }) m ≡ true → number_in true k ns x s ≡ k
  number_hit k [] s ns rest m h e t = absurd (h refl)
  number_hit k (b ∷ x) s ns rest m h e t = ap (λ vs. place_from k vs (b ∷ x) s) e ∙ ap (λ c. if c then k else place_from (k + 1) rest (b ∷ x) s) t

  number_miss : (k : ℕ) (x : List ℕ) (s : ℕ) (ns ms : List NamedVariable) (m : NamedVariable) → without_hole ns ≡ m ∷ without_hole ms → is_named (record { name = x; sort = s }) m ≡ false
      → number_in true k ns x s ≡ number_in true (k + 1) ms x s
  number_miss k [] s ns ms m e t = refl
  number_miss k (b ∷ x) s ns ms m e t =
      ap (λ vs. place_from k vs (b ∷ x) s) e ∙ ap (λ c. if c then k else place_from (k + 1) (without_hole ms) (b ∷ x) s) t

  abbrev variable : ℕ → ℕ → Variable
  variable n s = record { number = n; sort = s }

  module _ (begin : BeginAlike ws) where
    hole_text : text_at ws 2 ≡ []
    hole_text = text_is ws 2 [] begin.hole

    -- the hole, and what is not the hole
    is_empty : (n : ℕ) → (n == 2) ≡ true → text_at ws n ≡ []
    is_empty n e = ap (text_at ws) (eqb-true n 2 e) ∙ hole_text

    not_empty : (n : ℕ) → n < length ws → (n == 2) ≡ false → text_at ws n ≢ []
    not_empty n l e z = eqb-false n 2 e (d n 2 [] (text_listed ws n l ∙ ap (λ x. Some x) z) begin.hole)

    number_true : (k : ℕ) (vs : List Variable) (n s : ℕ) → n < length ws → Known vs → list_any (is_variable (variable n s)) vs ≡ true
        → numbering true k vs n s ≡ Var (number_in true k (names vs) (text_at ws n) s) s
    number_true k [] n s l a h = absurd (cc)
    number_true k (v ∷ vs) n s l a h =
        go (λ j e. number_true j vs n s l a.1 e) (v.number == 2) refl (is_variable (variable n s) v) refl
      where
        rest : list_any (is_variable (variable n s)) (v ∷ vs) ≡ true → is_variable (variable n s) v ≡ false → list_any (is_variable (variable n s)) vs ≡ true
        rest h f = rw f at h

        same_number : is_variable (variable n s) v ≡ true → n ≡ v.number
        same_number f = eqb-true n v.number (and_parts (n == v.number) (s == v.sort) f).0

        go : ((j : ℕ) → list_any (is_variable (variable n s)) vs ≡ true → numbering true j vs n s ≡ Var (number_in true j (names vs) (text_at ws n) s) s)
            → (x : Bool) → (v.number == 2) ≡ x → (y : Bool) → is_variable (variable n s) v ≡ y → numbering true k (v ∷ vs) n s ≡ Var (number_in true k (names (v ∷ vs)) (text_at ws n) s) s
        go ih true e true f =
            let z : text_at ws n ≡ [] = ap (text_at ws) (same_number f) ∙ is_empty v.number e in
            rw (e, f) (ap (λ x. Var (number_in true k (names (v ∷ vs)) x s) s) (sym z))
        go ih true e false f =
            rw (e, f) (ih k (rest h f) ∙ ap (λ m. Var m s) (number_skip k (text_at ws n) s (names vs) (names (v ∷ vs)) (sym (skip (text_at ws v.number) v.sort (names vs) (is_empty v.number e)))))
        go ih false e true f =
            let q = same_number f in
            let full : text_at ws n ≢ [] = λ z. not_empty v.number a.0 e (ap (text_at ws) (sym q) ∙ z) in
            rw (e, f) (ap (λ m. Var m s) (sym (number_hit k (text_at ws n) s (names (v ∷ vs)) (without_hole (names vs)) (name_of v) full
            (keeps (text_at ws v.number) v.sort (names vs) (not_empty v.number a.0 e)) (same_name (variable n s) v l a.0 ∙ f))))
        go ih false e false f =
            rw (e, f) (ih (k + 1) (rest h f) ∙ ap (λ m. Var m s) (sym (number_miss k (text_at ws n) s (names (v ∷ vs)) (names vs) (name_of v)
            (keeps (text_at ws v.number) v.sort (names vs) (not_empty v.number a.0 e)) (same_name (variable n s) v l a.0 ∙ f))))

  number_false : (k : ℕ) (vs : List Variable) (n s : ℕ) → n < length ws → Known vs → list_any (is_variable (variable n s)) vs ≡ true
      → numbering false k vs n s ≡ Var (place_from k (names vs) (text_at ws n) s) s
  number_false k [] n s l a h = absurd (cc)
  number_false k (v ∷ vs) n s l a h = go (λ e. number_false (k + 1) vs n s l a.1 e) (is_variable (variable n s) v) refl
    where
      go : (list_any (is_variable (variable n s)) vs ≡ true → numbering false (k + 1) vs n s ≡ Var (place_from (k + 1) (names vs) (text_at ws n) s) s)
          → (y : Bool) → is_variable (variable n s) v ≡ y → numbering false k (v ∷ vs) n s ≡ Var (place_from k (names (v ∷ vs)) (text_at ws n) s) s
      go ih true f = let z = same_name (variable n s) v l a.0 ∙ f in rw (f, z) refl
      go ih false f = let z = same_name (variable n s) v l a.0 ∙ f in rw (f, z) (ih (rw f at h))

  number : BeginAlike ws → (hole : Bool) (vs : List Variable) (n s : ℕ) → n < length ws → Known vs → list_any (is_variable (variable n s)) vs ≡ true
      → numbering hole (first_number hole) vs n s ≡ Var (numbers_of hole (names vs) (text_at ws n) s) s
  number b true vs n s l a h = number_true b 1 vs n s l a h ∙ ap (λ m. Var m s) (numbers_are true (names vs) (text_at ws n) s)
  number b false vs n s l a h = number_false 0 vs n s l a h

  -- the variables of a term are among those that were seen
  abbrev mutual
    IsIn : List Variable → Tree → Type 0
    IsIn vs (Var n s) = list_any (is_variable (variable n s)) vs ≡ true
    IsIn vs (App f s ts) = AreIn vs ts

    AreIn : List Variable → Trees → Type 0
    AreIn vs none = Unit {0}
    AreIn vs (more t ts) = IsIn vs t × AreIn vs ts

  any_front : (p : Variable → Bool) (vs us : List Variable) → list_any p vs ≡ true → list_any p (vs ++ us) ≡ true
  any_front p [] us h = absurd (cc)
  any_front p (v ∷ vs) us h = go (any_front p vs us) (p v) refl
    where
      go : (list_any p vs ≡ true → list_any p (vs ++ us) ≡ true) → (b : Bool) → p v ≡ b → (p v || list_any p (vs ++ us)) ≡ true
      go ih true e = rw e refl
      go ih false e = rw e (ih (rw e at h))

  any_last : (p : Variable → Bool) (vs : List Variable) (v : Variable) → p v ≡ true → list_any p (vs ++ v ∷ []) ≡ true
  any_last p [] v e = rw e refl
  any_last p (w ∷ vs) v e = go (any_last p vs v e) (p w)
    where
      go : list_any p (vs ++ v ∷ []) ≡ true → (b : Bool) → (b || list_any p (vs ++ v ∷ [])) ≡ true
      go ih true = refl
      go ih false = ih

  seen_more : (p : Variable → Bool) (v : Variable) (vs : List Variable) → list_any p vs ≡ true → list_any p (seen v vs) ≡ true
  seen_more p v vs h = go (list_any (is_variable v) vs)
    where
      go : (b : Bool) → list_any p (if b then vs else vs ++ v ∷ []) ≡ true
      go true = h
      go false = any_front p vs (v ∷ []) h

  seen_itself : (v : Variable) (vs : List Variable) → list_any (is_variable v) (seen v vs) ≡ true
  seen_itself v vs = go (list_any (is_variable v) vs) refl
    where
      itself : is_variable v v ≡ true
      itself = let a = eq-eqb v.number v.number refl in let b = eq-eqb v.sort v.sort refl in rw (a, b) refl

      go : (b : Bool) → list_any (is_variable v) vs ≡ b → list_any (is_variable v) (if list_any (is_variable v) vs then vs else vs ++ v ∷ []) ≡ true
      go true e = rw e e
      go false e = rw e (any_last (is_variable v) vs v itself)

  mutual
    kept : (p : Variable → Bool) (t : Tree) (vs : List Variable) → list_any p vs ≡ true → list_any p (seen_in t vs) ≡ true
    kept p (Var n s) vs h = seen_more p (variable n s) vs h
    kept p (App f s ts) vs h = all_kept p ts vs h

    all_kept : (p : Variable → Bool) (ts : Trees) (vs : List Variable) → list_any p vs ≡ true → list_any p (seen_in_all ts vs) ≡ true
    all_kept p none vs h = h
    all_kept p (more t ts) vs h = all_kept p ts (seen_in t vs) (kept p t vs h)

  mutual
    in_more : (t u : Tree) (vs : List Variable) → IsIn vs t → IsIn (seen_in u vs) t
    in_more (Var n s) u vs h = kept (is_variable (variable n s)) u vs h
    in_more (App f s ts) u vs h = all_in_more ts u vs h

    all_in_more : (ts : Trees) (u : Tree) (vs : List Variable) → AreIn vs ts → AreIn (seen_in u vs) ts
    all_in_more none u vs h = tt
    all_in_more (more t ts) u vs h = (in_more t u vs h.0, all_in_more ts u vs h.1)

  mutual
    in_all_more : (t : Tree) (us : Trees) (vs : List Variable) → IsIn vs t → IsIn (seen_in_all us vs) t
    in_all_more t none vs h = h
    in_all_more t (more u us) vs h = in_all_more t us (seen_in u vs) (in_more t u vs h)

  mutual
    in_seen : (t : Tree) (vs : List Variable) → IsIn (seen_in t vs) t
    in_seen (Var n s) vs = seen_itself (variable n s) vs
    in_seen (App f s ts) vs = all_in_seen ts vs

    all_in_seen : (ts : Trees) (vs : List Variable) → AreIn (seen_in_all ts vs) ts
    all_in_seen none vs = tt
    all_in_seen (more t ts) vs = (in_all_more t ts (seen_in t vs) (in_seen t vs), all_in_seen ts (seen_in t vs))

  module _ (begin : BeginAlike ws) (hole : Bool) (vs : List Variable) (k : Known vs) where
    mutual
      numbered_named : (t : Tree) → AreKnown ws t → IsIn vs t → instance (numbering hole (first_number hole) vs) t ≡ numbered (numbers_of hole (names vs)) (named_by ws t)
      numbered_named (Var n s) a h = number begin hole vs n s a k h
      numbered_named (App f s ts) a h = ap (App f s) (all_numbered_named ts a h)

      all_numbered_named : (ts : Trees) → AreAllKnown ws ts → AreIn vs ts → instances (numbering hole (first_number hole) vs) ts ≡ all_numbered (numbers_of hole (names vs)) (all_named_by ws ts)
      all_numbered_named none a h = refl
      all_numbered_named (more t ts) a h = ap (λ x. more x (instances (numbering hole (first_number hole) vs) ts)) (numbered_named t a.0 h.0) ∙ ap (more (numbered (numbers_of hole (names vs)) (named_by ws t))) (all_numbered_named ts a.1 h.1)

  -- one term
  pub one_named : BeginAlike ws → (hole : Bool) (t : Tree) → AreKnown ws t → numbered_anew hole t ≡ reading_of hole (named_by ws t)
  one_named begin hole t a =
      let vs = seen_in t [] in
      numbered_named begin hole vs (known_in t [] a tt) t a (in_seen t []) ∙ ap (λ x. numbered (numbers_of hole x) (named_by ws t)) (sym (seen_names t [] a tt))
