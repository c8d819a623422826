-- The variables that a token is.
use Rattle.std.proofs.Common.{◌≡◌, ◌≢◌, ◌⊎◌, ◌<◌, ◌≤◌, ◌+◌, ◌++◌, ℕ, zero, suc, List, [], ◌∷◌, length, get_or, Bool, true, false, not, nat_lt, Some, None, option_map, nat_eq, ◌==◌, inl, inr, sym, ◌∙◌, ap, subst, refl, arith, codes}
use Rattle.std.specs.Prelude.{if◌then◌else◌, position}
use Rattle.std.specs.List.{slice_get, list_any, Contains, position_or_len}
use Rattle.std.specs.Cmp.Lexicographic.{pointwise, bytes_decides}
use Rattle.std.proofs.lemmas.List.{append_cancel_left, nil_from_length}
use Rattle.std.proofs.lemmas.List.Quantifiers.{position-Some}
use Rattle.std.proofs.lemmas.Option.{slice_get_within, slice_get-get_or, slice_get-map}
use Rattle.std.proofs.lemmas.Bool.{cases_eq, eqb-true}
use Rattle.std.proofs.lemmas.Grind.{common_steps}
use Rattle.circ_spelling.specs.declared.grammar.Variable as chart_variable
use Rattle.circ_theory.specs.Signature.{Signature}
use Rattle.circ_theory.specs.Theory.{Declared, declared}
use Rattle.circ_theory.specs.Names.{AreDifferent, names_of}
use Rattle.circ_theory.proofs.Rewriting.{contains_at}
use Rattle.circ_mixfix.specs.Spells.{HasNoColon, IsVariable, a_declared_one, a_written_one, the_hole}
use Rattle.circ_mixfix.specs.Variables.{variables_named, AreDeclared, GivesVariable, AreVariablesOf, AddsVariables, HasVariables}
use Rattle.circ_theory.proofs.Lists.{slice_get-front}
use Rattle.circ_mixfix.specs.Coding.{IsVariableOf}
use Rattle.circ_mixfix.specs.WordLists.{GrowsTo}
use Rattle.circ_mixfix.proofs.Names.{no_colon, colon_at, before_colon}

first_passes : {X : Type 0} (p : X → Bool) (xs : List X) (k : ℕ) (x : X) → slice_get xs k ≡ Some x → p x ≡ true → position_or_len p xs ≤ k
first_passes p [] k x e t = absurd (cc)
first_passes p (y ∷ xs) zero x e t = let q : y ≡ x = cc in let f : p y ≡ true = ap p q ∙ t in rw f (omega arith)
first_passes p (y ∷ xs) (suc k) x e t = go (p y) refl (first_passes p xs k x e t)
  where
    go : (b : Bool) → p y ≡ b → position_or_len p xs ≤ k → position_or_len p (y ∷ xs) ≤ suc k
    go true f l = rw f (omega arith)
    go false f l = rw f (omega arith)

-- an item that passes has a place
pub position_there : {X : Type 0} (p : X → Bool) (xs : List X) (k : ℕ) (x : X) → slice_get xs k ≡ Some x → p x ≡ true → position p xs ≡ None → ⊥
position_there p xs k x e t none = go (nat_lt (position_or_len p xs) (length xs)) refl
  where
    go : (b : Bool) → nat_lt (position_or_len p xs) (length xs) ≡ b → ⊥
    go true f = absurd (let z = rw f at none in cc)
    go false f = let l = first_passes p xs k x e t in let w = slice_get_within xs k x e in absurd (grind (arith, common_steps))

-- what stands before the first colon, and what stands behind it, are one
cut_once : (name sort n2 s2 : List ℕ) → name ++ 58 ∷ sort ≡ n2 ++ 58 ∷ s2 → HasNoColon name → HasNoColon n2 → (name ≡ n2) × (sort ≡ s2)
cut_once name sort n2 s2 e h h2 =
    let z : Some name ≡ Some n2 = sym (colon_at name sort h) ∙ ap before_colon e ∙ colon_at n2 s2 h2 in
    let q : name ≡ n2 = cc z in
    let t : 58 ∷ sort ≡ 58 ∷ s2 = append_cancel_left n2 (58 ∷ sort) (58 ∷ s2) (ap (λ x. x ++ 58 ∷ sort) (sym q) ∙ e) in
    (q, cc t)

-- a variable that is written with a colon
record Written (sig : Signature) (hole : Bool) (name sort n : List ℕ) (s : ℕ) : Type 0 where
  known : slice_get sig.sorts s ≡ Some sort
  some : sort ≢ []
  no_colon : HasNoColon sort
  named : ((name ≢ []) × (name ≢ codes "*") × (n ≡ name)) ⊎ ((name ≡ codes "*") × (hole ≡ true) × (n ≡ []))

inverted : (sig : Signature) (vars : List Declared) (hole : Bool) (name sort w n : List ℕ) (s : ℕ) → w ≡ name ++ 58 ∷ sort → HasNoColon name → IsVariable sig vars hole w n s → Written sig hole name sort n s
inverted sig vars hole name sort w n s e h (a_declared_one c k a b) =
    absurd (let z : None ≡ Some name = sym (no_colon w k) ∙ ap before_colon e ∙ colon_at name sort h in cc z)
inverted sig vars hole name sort w n s e h (a_written_one sort2 l e2 k m i j star) =
    let q = cut_once name sort n sort2 (sym e ∙ e2) h k in
    let P : List ℕ → Type 0 = HasNoColon in
    record {
      known = l ∙ ap (λ x. Some x) (sym q.1);
      some = λ z. j (sym q.1 ∙ z);
      no_colon = subst P (sym q.1) m;
      named = inl (λ z. i (sym q.0 ∙ z), λ z. star (sym q.0 ∙ z), sym q.0);
    }
inverted sig vars hole name sort w n s e h (the_hole sort2 t l e2 k m) =
    let q = cut_once name sort (codes "*") sort2 (sym e ∙ e2) h refl in
    let P : List ℕ → Type 0 = HasNoColon in
    record { known = l ∙ ap (λ x. Some x) (sym q.1); some = λ z. m (sym q.1 ∙ z); no_colon = subst P (sym q.1) k; named = inr (q.0, t, refl) }

module _ (sig : Signature) (vars : List Declared) (hole : Bool) (name sort : List ℕ) (h : HasNoColon name) where
  abbrev Absent : Type 0
  Absent = GivesVariable sig vars hole (name ++ 58 ∷ sort) None

  written_is : (n : List ℕ) (s : ℕ) → IsVariable sig vars hole (name ++ 58 ∷ sort) n s → Written sig hole name sort n s
  written_is n s v = inverted sig vars hole name sort (name ++ 58 ∷ sort) n s refl h v

  pub absent_name : name ≡ [] → Absent
  absent_name e n s v = go (written_is n s v).named
    where
      go : ((name ≢ []) × (name ≢ codes "*") × (n ≡ name)) ⊎ ((name ≡ codes "*") × (hole ≡ true) × (n ≡ [])) → ⊥
      go (inl a) = a.0 e
      go (inr a) = absurd (let z = sym e ∙ a.0 in cc z)

  pub absent_sort : sort ≡ [] → Absent
  absent_sort e n s v = (written_is n s v).some e

  pub absent_colon : list_any (λ b. b == 58) sort ≡ true → Absent
  absent_colon e n s v = absurd (let z = sym e ∙ (written_is n s v).no_colon in cc z)

  pub absent_hole : name ≡ codes "*" → hole ≡ false → Absent
  absent_hole e f n s v = go (written_is n s v).named
    where
      go : ((name ≢ []) × (name ≢ codes "*") × (n ≡ name)) ⊎ ((name ≡ codes "*") × (hole ≡ true) × (n ≡ [])) → ⊥
      go (inl a) = a.1 e
      go (inr a) = absurd (let z = sym f ∙ a.1 in cc z)

  same_sort : (s t : ℕ) → AreDifferent sig.sorts → slice_get sig.sorts s ≡ Some sort → slice_get sig.sorts t ≡ Some sort → t ≡ s
  same_sort s t d a b = d t s sort b a

  pub gives_written : (s : ℕ) → AreDifferent sig.sorts → slice_get sig.sorts s ≡ Some sort → sort ≢ [] → HasNoColon sort → name ≢ [] → name ≢ codes "*"
      → GivesVariable sig vars hole (name ++ 58 ∷ sort) (Some (name, s))
  gives_written s d l some none i star = (a_written_one sort l refl h none i some star, λ n t v. let r = written_is n t v in (go n r.named, same_sort s t d l r.known))
    where
      go : (n : List ℕ) → ((name ≢ []) × (name ≢ codes "*") × (n ≡ name)) ⊎ ((name ≡ codes "*") × (hole ≡ true) × (n ≡ [])) → n ≡ name
      go n (inl a) = a.2
      go n (inr a) = absurd (star a.0)

  pub gives_hole : (s : ℕ) → AreDifferent sig.sorts → slice_get sig.sorts s ≡ Some sort → sort ≢ [] → HasNoColon sort → name ≡ codes "*" → hole ≡ true
      → GivesVariable sig vars hole (name ++ 58 ∷ sort) (Some ([], s))
  gives_hole s d l some none star t = (the_hole sort t l (ap (λ x. x ++ 58 ∷ sort) star) none some, λ n u v. let r = written_is n u v in (go n r.named, same_sort s u d l r.known))
    where
      go : (n : List ℕ) → ((name ≢ []) × (name ≢ codes "*") × (n ≡ name)) ⊎ ((name ≡ codes "*") × (hole ≡ true) × (n ≡ [])) → n ≡ []
      go n (inl a) = absurd (a.1 star)
      go n (inr a) = a.2

  pub absent_unknown : position (pointwise nat_eq sort) sig.sorts ≡ None → Absent
  absent_unknown e n s v = let r = written_is n s v in position_there (pointwise nat_eq sort) sig.sorts s sort r.known ((bytes_decides sort sort).1 refl) e

-- the number of a text that is there
pub position_is : (ws : List (List ℕ)) (w : List ℕ) (n : ℕ) → position (pointwise nat_eq w) ws ≡ Some n → slice_get ws n ≡ Some w
position_is ws w n e =
    let h = position-Some (pointwise nat_eq w) ws n w e in
    slice_get-get_or ws n w h.0 ∙ ap (λ x. Some x) (sym ((bytes_decides w (get_or ws n w)).0 h.1))

-- an item that a list contains
contained : {X : Type 0} (xs : List X) (x : X) → Contains xs x → (k : ℕ) × (slice_get xs k ≡ Some x)
contained xs x c = (c.0, slice_get-get_or xs c.0 x c.1 ∙ ap (λ y. Some y) c.2)

module _ (i : ℕ) (w : List ℕ) where
  abbrev here : ℕ → chart_variable.Variable
  here s = record { word = i; number = i; sort = s }

  abbrev Sound : List Declared → chart_variable.Variable → Type 0
  Sound ds v = (v.word ≡ i) × (v.number ≡ i) × (k : ℕ) × (slice_get ds k ≡ Some (declared w v.sort))

  named_sound : (ds : List Declared) (n : ℕ) (v : chart_variable.Variable) → slice_get (variables_named ds i w) n ≡ Some v → Sound ds v
  named_sound [] n v e = absurd (cc)
  named_sound (d ∷ ds) n v e = go (λ m f. named_sound ds m v f) (pointwise nat_eq d.name w) refl n e
    where
      later : Sound ds v → Sound (d ∷ ds) v
      later r = (r.0, r.1, suc r.2, r.3)

      go : ((m : ℕ) → slice_get (variables_named ds i w) m ≡ Some v → Sound ds v) → (b : Bool) → pointwise nat_eq d.name w ≡ b
          → (m : ℕ) → slice_get (if b then here d.sort ∷ variables_named ds i w else variables_named ds i w) m ≡ Some v → Sound (d ∷ ds) v
      go ih true q zero f =
          let z : here d.sort ≡ v = cc f in
          let P : chart_variable.Variable → Type 0 = Sound (d ∷ ds) in
          subst P z (refl, refl, 0, ap (λ x. Some (declared x d.sort)) ((bytes_decides d.name w).0 q))
      go ih true q (suc m) f = later (ih m f)
      go ih false q m f = later (ih m f)

  named_all : (ds : List Declared) (k s : ℕ) → slice_get ds k ≡ Some (declared w s) → (n : ℕ) × (slice_get (variables_named ds i w) n ≡ Some (here s))
  named_all [] k s e = absurd (cc)
  named_all (d ∷ ds) zero s e =
      let q : d ≡ declared w s = cc e in
      let t = (bytes_decides d.name w).1 (ap (λ x. x.name) q) in
      (0, rw t (ap (λ x. Some (here x.sort)) q))
  named_all (d ∷ ds) (suc k) s e = go (named_all ds k s e) (pointwise nat_eq d.name w)
    where
      go : (n : ℕ) × (slice_get (variables_named ds i w) n ≡ Some (here s)) → (b : Bool)
          → (n : ℕ) × (slice_get (if b then here d.sort ∷ variables_named ds i w else variables_named ds i w) n ≡ Some (here s))
      go r true = (suc r.0, r.1)
      go r false = r

  pub named_are : (ds : List Declared) → AreDeclared ds i w (variables_named ds i w)
  named_are ds = record {
    sound = λ n v e. let r = named_sound ds n v e in (r.0, r.1, contains_at ds r.2 (declared w v.sort) r.3);
    all = λ s c. let k = contained ds (declared w s) c in named_all ds k.0 s k.1;
  }

  pub none_declared : (ds : List Declared) → position (λ d. pointwise nat_eq w d.name) ds ≡ None → AreDeclared ds i w []
  none_declared ds e = record {
    sound = λ n v f. absurd (cc);
    all = λ s c. let k = contained ds (declared w s) c in absurd (position_there (λ d. pointwise nat_eq w d.name) ds k.0 (declared w s) k.1 ((bytes_decides w w).1 refl) e);
  }

  -- one that has a place is there
  pub placed : (ds : List Declared) (n : ℕ) → position (λ d. pointwise nat_eq w d.name) ds ≡ Some n → slice_get ds n ≡ None → ⊥
  placed ds n e f =
      let h = position-Some (λ d. pointwise nat_eq w d.name) ds n (declared w 0) e in
      absurd (let z = sym (slice_get-get_or ds n (declared w 0) h.0) ∙ f in cc z)

  pub one_declared : (ds : List Declared) (n : ℕ) (d : Declared) → AreDifferent (names_of ds) → position (λ x. pointwise nat_eq w x.name) ds ≡ Some n → slice_get ds n ≡ Some d
      → AreDeclared ds i w (here d.sort ∷ [])
  one_declared ds n d different e l =
      let h = position-Some (λ x. pointwise nat_eq w x.name) ds n d e in
      let g : Some d ≡ Some (get_or ds n d) = sym l ∙ slice_get-get_or ds n d h.0 in
      let q : d ≡ get_or ds n d = cc g in
      let name : w ≡ d.name = (bytes_decides w (get_or ds n d).name).0 h.1 ∙ ap (λ x. x.name) (sym q) in
      let is : slice_get ds n ≡ Some (declared w d.sort) = l ∙ ap (λ x. Some (declared x d.sort)) (sym name) in
      record {
        sound = λ m v f. sound m v f is;
        all = λ s c. let k = contained ds (declared w s) c in (0, all s k.0 k.1 is);
      }
    where
      sound : (m : ℕ) (v : chart_variable.Variable) → slice_get (here d.sort ∷ []) m ≡ Some v → slice_get ds n ≡ Some (declared w d.sort) → (v.word ≡ i) × (v.number ≡ i) × Contains ds (declared w v.sort)
      sound zero v f is =
          let z : here d.sort ≡ v = cc f in
          let P : chart_variable.Variable → Type 0 = λ x. (x.word ≡ i) × (x.number ≡ i) × Contains ds (declared w x.sort) in
          subst P z (refl, refl, contains_at ds n (declared w d.sort) is)
      sound (suc m) v f is = absurd (cc)

      all : (s k : ℕ) → slice_get ds k ≡ Some (declared w s) → slice_get ds n ≡ Some (declared w d.sort) → Some (here d.sort) ≡ Some (here s)
      all s k f is =
          let a : slice_get (names_of ds) k ≡ Some w = slice_get-map (λ x. x.name) ds k ∙ ap (option_map (λ x. x.name)) f in
          let b : slice_get (names_of ds) n ≡ Some w = slice_get-map (λ x. x.name) ds n ∙ ap (option_map (λ x. x.name)) is in
          let p : n ≡ k = different n k w b a in
          let z : Some (declared w d.sort) ≡ Some (declared w s) = sym is ∙ ap (slice_get ds) p ∙ f in
          let q : declared w d.sort ≡ declared w s = cc z in
          ap (λ x. Some (here x.sort)) q

module _ (sig : Signature) (vars : List Declared) (hole : Bool) (ws : List (List ℕ)) (i : ℕ) (w : List ℕ) where
  -- of a token without a colon
  pub declared_only : (vs : List chart_variable.Variable) → HasNoColon w → ((w ≡ codes "(") ⊎ (w ≡ codes ")") → ⊥) → slice_get ws i ≡ Some w → AreDeclared vars i w vs
      → AreVariablesOf sig vars hole ws i w vs
  declared_only vs h p at d = record { sound = sound; all = all w refl }
    where
      sound : (n : ℕ) (v : chart_variable.Variable) → slice_get vs n ≡ Some v → (name : List ℕ) × (v.word ≡ i) × (slice_get ws v.number ≡ Some name) × IsVariable sig vars hole w name v.sort
      sound n v e = let r = d.sound n v e in (w, r.0, ap (slice_get ws) r.1 ∙ at, a_declared_one r.2 h (λ z. p (inl z)) (λ z. p (inr z)))

      colon_clash : (sort name : List ℕ) → w ≡ name ++ 58 ∷ sort → HasNoColon w → HasNoColon name → ⊥
      colon_clash sort name e a b = absurd (let z : None ≡ Some name = sym (no_colon w a) ∙ ap before_colon e ∙ colon_at name sort b in cc z)

      all : (u : List ℕ) → u ≡ w → (name : List ℕ) (s : ℕ) → IsVariable sig vars hole u name s → (n : ℕ) × (v : chart_variable.Variable) × (slice_get vs n ≡ Some v) × IsVariableOf ws name i s v
      all u q name s (a_declared_one c k a b) =
          let P : List ℕ → Type 0 = λ x. Contains vars (declared x s) in
          let r = d.all s (subst P q c) in
          (r.0, record { word = i; number = i; sort = s }, r.1, record { word = refl; number = at ∙ ap (λ x. Some x) (sym q); sort = refl })
      all u q name s (a_written_one sort l e k m x y star) = absurd (colon_clash sort name (sym q ∙ e) h k)
      all u q name s (the_hole sort t l e k m) = absurd (colon_clash sort (codes "*") (sym q ∙ e) h refl)

  pub no_parenthesis : (w ≡ codes "(") ⊎ (w ≡ codes ")") → AreVariablesOf sig vars hole ws i w []
  no_parenthesis p = record { sound = λ n v e. absurd (cc); all = λ name s v. absurd (none w refl name s v) }
    where
      bare : (name sort : List ℕ) → w ≡ name ++ 58 ∷ sort → HasNoColon name → ((w ≡ codes "(") ⊎ (w ≡ codes ")")) → ⊥
      bare name sort e h (inl q) = absurd (let z : before_colon (codes "(") ≡ Some name = ap before_colon (sym q ∙ e) ∙ colon_at name sort h in cc z)
      bare name sort e h (inr q) = absurd (let z : before_colon (codes ")") ≡ Some name = ap before_colon (sym q ∙ e) ∙ colon_at name sort h in cc z)

      neither : (u : List ℕ) → u ≡ w → u ≢ codes "(" → u ≢ codes ")" → ((w ≡ codes "(") ⊎ (w ≡ codes ")")) → ⊥
      neither u q a b (inl z) = a (q ∙ z)
      neither u q a b (inr z) = b (q ∙ z)

      none : (u : List ℕ) → u ≡ w → (name : List ℕ) (s : ℕ) → IsVariable sig vars hole u name s → ⊥
      none u q name s (a_declared_one c k a b) = neither u q a b p
      none u q name s (a_written_one sort l e k m x y star) = bare name sort (sym q ∙ e) k p
      none u q name s (the_hole sort t l e k m) = bare (codes "*") sort (sym q ∙ e) refl p

  pub one_written : (name : List ℕ) (s j : ℕ) → GivesVariable sig vars hole w (Some (name, s)) → slice_get ws j ≡ Some name
      → AreVariablesOf sig vars hole ws i w (record { word = i; number = j; sort = s } ∷ [])
  one_written name s j g at = record {
    sound = sound;
    all = λ n t v. let r = g.1 n t v in (0, record { word = i; number = j; sort = s }, refl, record { word = refl; number = at ∙ ap (λ x. Some x) (sym r.0); sort = sym r.1 });
  }
    where
      sound : (n : ℕ) (v : chart_variable.Variable) → slice_get (record { word = i; number = j; sort = s } ∷ []) n ≡ Some v
          → (x : List ℕ) × (v.word ≡ i) × (slice_get ws v.number ≡ Some x) × IsVariable sig vars hole w x v.sort
      sound zero v e =
          let z : record { word = i; number = j; sort = s } ≡ v = cc e in
          let P : chart_variable.Variable → Type 0 = λ v. (x : List ℕ) × (v.word ≡ i) × (slice_get ws v.number ≡ Some x) × IsVariable sig vars hole w x v.sort in
          subst P z (name, refl, at, g.0)
      sound (suc n) v e = absurd (cc)

pub is_nil : {X : Type 0} (xs : List X) → (length xs == 0) ≡ true → xs ≡ []
is_nil xs e = nil_from_length xs (eqb-true (length xs) 0 e)

pub not_nil : {X : Type 0} (xs : List X) → (length xs == 0) ≡ false → xs ≢ []
not_nil xs e z = absurd (let q = sym e ∙ ap (λ x. length x == 0) z in cc q)

pub is_star : (name star : List ℕ) → not (pointwise nat_eq name star) ≡ false → star ≡ codes "*" → name ≡ codes "*"
is_star name star e s = go (pointwise nat_eq name star) refl
  where
    go : (b : Bool) → pointwise nat_eq name star ≡ b → name ≡ codes "*"
    go true q = (bytes_decides name star).0 q ∙ s
    go false q = absurd (let z = rw q at e in cc z)

pub no_star : (name star : List ℕ) → not (pointwise nat_eq name star) ≡ true → star ≡ codes "*" → name ≢ codes "*"
no_star name star e s z = absurd (let q = (bytes_decides name star).1 (z ∙ sym s) in let y = rw q at e in cc y)

-- an item of two lists, one after the other
get_split : {X : Type 0} (xs ys : List X) (n : ℕ) (x : X) → slice_get (xs ++ ys) n ≡ Some x → (slice_get xs n ≡ Some x) ⊎ ((k : ℕ) × (slice_get ys k ≡ Some x))
get_split [] ys n x e = inr (n, e)
get_split (z ∷ xs) ys zero x e = inl e
get_split (z ∷ xs) ys (suc n) x e = get_split xs ys n x e

get_back : {X : Type 0} (xs ys : List X) (n : ℕ) → slice_get (xs ++ ys) (length xs + n) ≡ slice_get ys n
get_back [] ys n = let e : 0 + n ≡ n = omega arith in ap (slice_get ys) e
get_back (z ∷ xs) ys n = let e : suc (length xs) + n ≡ suc (length xs + n) = omega arith in ap (slice_get (z ∷ (xs ++ ys))) e ∙ get_back xs ys n

pub no_variables : (sig : Signature) (vars : List Declared) (hole : Bool) (ws : List (List ℕ)) (vs : List chart_variable.Variable) → vs ≡ [] → HasVariables sig vars hole ws 0 vs
no_variables sig vars hole ws vs e = record {
  variables = λ n v l. absurd (let z : slice_get [] n ≡ Some v = ap (λ x. slice_get x n) (sym e) ∙ l in cc z);
  all_variables = λ i w name s l. absurd (omega arith);
}

-- the variables of one text more
pub has_more : (sig : Signature) (vars : List Declared) (hole : Bool) (ws new : List (List ℕ)) (m : ℕ) (w : List ℕ) (vs us : List chart_variable.Variable)
    → HasVariables sig vars hole ws m vs → GrowsTo ws new 1 → slice_get ws m ≡ Some w → AddsVariables sig vars hole new m w vs us → HasVariables sig vars hole new (m + 1) us
has_more sig vars hole ws new m w vs us h g at a =
    let P : List chart_variable.Variable → Type 0 = HasVariables sig vars hole new (m + 1) in
    subst P (sym a.1) (record { variables = λ n v e. sound n v (get_split vs a.0 n v e); all_variables = all })
  where
    sound : (n : ℕ) (v : chart_variable.Variable) → (slice_get vs n ≡ Some v) ⊎ ((k : ℕ) × (slice_get a.0 k ≡ Some v))
        → (u name : List ℕ) × (slice_get new v.word ≡ Some u) × (slice_get new v.number ≡ Some name) × IsVariable sig vars hole u name v.sort
    sound n v (inl e) = let r = h.variables n v e in (r.0, r.1, g.kept v.word r.0 r.2, g.kept v.number r.1 r.3, r.4)
    sound n v (inr k) = let r = a.2.sound k.0 v k.1 in (w, r.0, ap (slice_get new) r.1 ∙ g.kept m w at, r.2, r.3)

    all : (i : ℕ) (u name : List ℕ) (s : ℕ) → i < m + 1 → slice_get new i ≡ Some u → IsVariable sig vars hole u name s
        → (n : ℕ) × (v : chart_variable.Variable) × (slice_get (vs ++ a.0) n ≡ Some v) × IsVariableOf new name i s v
    all i u name s l f x = go (cases_eq i m)
      where
        P : List ℕ → Type 0
        P y = IsVariable sig vars hole y name s

        go : ((i ≡ m) ⊎ (i ≡ m → ⊥)) → (n : ℕ) × (v : chart_variable.Variable) × (slice_get (vs ++ a.0) n ≡ Some v) × IsVariableOf new name i s v
        go (inl q) =
            let z : Some u ≡ Some w = sym f ∙ ap (slice_get new) q ∙ g.kept m w at in
            let r = a.2.all name s (subst P (cc z) x) in
            let o = r.3 in
            (length vs + r.0, r.1, get_back vs a.0 r.0 ∙ r.2, record { word = o.word ∙ sym q; number = o.number; sort = o.sort })
        go (inr q) =
            let small = slice_get_within ws m w at in
            let is = slice_get-get_or ws i [] (omega arith) in
            let z : Some u ≡ Some (get_or ws i []) = sym f ∙ g.kept i (get_or ws i []) is in
            let r = h.all_variables i (get_or ws i []) name s (omega arith) is (subst P (cc z) x) in
            let o = r.3 in
            (r.0, r.1, slice_get-front vs a.0 r.0 r.1 r.2, record { word = o.word; number = g.kept r.1.number name o.number; sort = o.sort })

pub text_past : (ws : List (List ℕ)) (i : ℕ) → slice_get ws i ≡ None → i < length ws → ⊥
text_past ws i e l = absurd (let z = sym (slice_get-get_or ws i [] l) ∙ e in cc z)
