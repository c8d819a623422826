-- What is owed of a path is what guards need.
use Rattle.std.proofs.Common.{◌≡◌, ◌≤◌, ◌<◌, ◌+◌, ℕ, List, [], ◌∷◌, ◌++◌, zero, suc, Option, Some, None, true, false, ◌↔◌, ◌⊎◌, inl, inr, Result, Ok, Err, Bool, IsTrue}
use Rattle.std.proofs.Common.{length, length-append, take, drop, refl, sym, ap, subst, ◌∙◌, arith, append-nil, append_assoc, get_or}
use Rattle.std.specs.Prelude.{max, min, not, nat_eq, IfOk}
use Rattle.std.specs.List.{slice_get, Contains}
use Rattle.std.specs.Option.{option_map, option_map_or, option_eq}
use Rattle.std.proofs.lemmas.Bool.{cases_Bool, cases_lt}
use Rattle.std.proofs.lemmas.List.{take-append-le, take-append-drop}
use Rattle.std.proofs.Math.Seq.{take-append_seam, drop-append_seam}
use Rattle.std.proofs.lemmas.Option.{same_Some, slice_get_read, slice_get_within}
use Rattle.circ_term.specs.Tree.{Tree, Trees, Var, App, list_of, trees_of, args_of, at, walk, sort_of}
use Rattle.circ_term.specs.Substitution.{Substitution, instance, instances}
use Rattle.circ_term.proofs.Trees.{list_of-trees_of}
use Rattle.circ_term.proofs.Paths.{nowhere, walk-append, at-append, at_instance}
use Rattle.circ_theory.specs.Theory.{Derivative, IsVisible, IsHidden}
use Rattle.circ_theory.specs.Experiment.{plug}
use Rattle.circ_theory.specs.WellFormed.{IsWellFormed}
use Rattle.circ_theory.proofs.Noting.{sorts_decide}
use Rattle.circ_theory.proofs.Rewriting.{contains_at}
use Rattle.circ_special.specs.declared.place.Place.{Place}
use Rattle.circ_special.specs.Special.{IsSpecial, place}
use Rattle.circ_special.specs.Fitting.{fits}
use Rattle.circ_special.specs.Guarded.{IsInstanceAt, Guarded, by_visible, by_place, by_hidden}
use Rattle.circ_special.proofs.Instances.{fits_exactly}
use Rattle.circ_needs.specs.declared.observers.Look.{Look}
use Rattle.circ_needs.specs.declared.walking.Asked.{Asked}
use Rattle.circ_needs.specs.Observing.{IsRow, look}
use Rattle.circ_needs.specs.Needs.{HasAll}
use Rattle.circ_needs.specs.Owing.{IsGuarded, GuardsBelow, AreSpecial, IsParent, IsInstance, Suffices, OwesAt, IsSeen, IsAtMost, OwesBy, FitsFront, HasFit, OwesThere, AreMet}
use Rattle.circ_needs.specs.Owing.{Owes, GuardsArgs, GuardsArgsTo, OwesAll, OwesTo, Passes}
use Rattle.circ_needs.proofs.Specials.{special_front, special_fewer, special_step}

-- ---- paths

-- the last step of a path
ends : (r : List ℕ) → (r ≡ []) ⊎ ((s : List ℕ) × (j : ℕ) × (r ≡ s ++ j ∷ []))
ends [] = inl refl
ends (i ∷ r) = elim (ends r) [
  | inl e ↦ inr ([], i, ap (λ x. i ∷ x) e)
  | inr h ↦ inr (i ∷ h.0, h.1, ap (λ x. i ∷ x) h.2)
]

same_front : (p q r s : List ℕ) → p ++ r ≡ q ++ s → length p ≡ length q → p ≡ q
same_front p q r s e l = sym (take-append_seam p r) ∙ ap (take (length p)) e ∙ ap (λ n. take n (q ++ s)) l ∙ take-append_seam q s

same_rest : (p q r s : List ℕ) → p ++ r ≡ q ++ s → length p ≡ length q → r ≡ s
same_rest p q r s e l = sym (drop-append_seam p r) ∙ ap (drop (length p)) e ∙ ap (λ n. drop n (q ++ s)) l ∙ drop-append_seam q s

pub read_at : {X : Type 0} (xs : List X) (i : ℕ) (d : X) → i < length xs → slice_get xs i ≡ Some (get_or xs i d)
read_at [] i d l = absurd (omega (arith, l))
read_at (x ∷ xs) zero d l = refl
read_at (x ∷ xs) (suc i) d l = read_at xs i d (omega (arith, l))

pub sorts_same : (o : Option ℕ) (s : ℕ) → not (option_eq nat_eq o (Some s)) ≡ false → Some s ≡ o
sorts_same o s e = elim (cases_Bool (option_eq nat_eq o (Some s))) [
  | inl h ↦ sym ((sorts_decide o (Some s)).0 h)
  | inr h ↦ absurd (let z = rw h at e in cc)
]

-- what stands above a subterm is an application
record Above (t : Tree) (r : List ℕ) : Type 0 where
  op : ℕ
  sort : ℕ
  args : Trees
  there : at t r ≡ Some (App op sort args)

above : (t : Tree) (r : List ℕ) (i : ℕ) (x : Tree) → at t (r ++ i ∷ []) ≡ Some x → Above t r
above t r i x e = go (walk (Some t) r) refl
  where
    go : (o : Option Tree) → walk (Some t) r ≡ o → Above t r
    go None w = absurd (let y = sym (walk-append (Some t) r (i ∷ [])) ∙ e in let z = rw w at y in cc)
    go (Some (Var n s)) w = absurd (let y = sym (walk-append (Some t) r (i ∷ [])) ∙ e in let z = rw w at y in cc)
    go (Some (App f s ts)) w = record { op = f; sort = s; args = ts; there = w }

special_take : (G : List Place) (t : Tree) (k : ℕ) (p : List ℕ) → IsSpecial G t p → IsSpecial G t (take k p)
special_take G t k p h = special_front G t (take k p) (drop k p) (subst (IsSpecial G t) (sym (take-append-drop k p)) h)

take_max : (G : List Place) (t : Tree) (j k : ℕ) (p : List ℕ) → IsSpecial G t (take (max j k) p) ↔ (IsSpecial G t (take j p) × IsSpecial G t (take k p))
take_max G t j k p = (
  (λ h. (special_fewer G t j (max j k) p (omega arith) h, special_fewer G t k (max j k) p (omega arith) h)),
  (λ h. elim (cases_lt j k) [
    | inl l ↦ let e : k ≡ max j k = omega arith in let P : ℕ → Type 0 = λ n. IsSpecial G t (take n p) in subst P e h.1
    | inr l ↦ let e : j ≡ max j k = omega arith in let P : ℕ → Type 0 = λ n. IsSpecial G t (take n p) in subst P e h.0
  ]),
)

module _ (a : Asked) where
  -- ---- one derivative

  module _ (ok : IsWellFormed a.observers.now) (front rest : List ℕ) (x : Look) (d : Derivative) (listed : slice_get a.observers.now.derivatives x.number ≡ Some d)
      (sort : d.hole ≡ a.sort) (long : length rest ≡ x.steps) where
    contains : Contains a.observers.now.derivatives d
    contains = contains_at a.observers.now.derivatives x.number d listed

    -- what is seen is seen here
    record IsHere (e : Derivative) (q r : List ℕ) : Type 0 where
      same : d ≡ e
      front_is : front ≡ q
      rest_is : rest ≡ r

    is_here : (e : Derivative) (q r : List ℕ) → IsSeen a (front ++ rest) x e q r → IsHere e q r
    is_here e q r s =
        let l : length front ≡ length q = omega (arith, ap length s.cut, length-append front rest, length-append q r, long, s.long) in
        record {
          same = same_Some d e (sym listed ∙ s.listed);
          front_is = same_front front q rest r s.cut l;
          rest_is = same_rest front q rest r s.cut l;
        }

    hole_here : at d.body rest ≡ Some (Var 0 a.sort) → at d.body rest ≡ Some (Var 0 d.hole)
    hole_here h = h ∙ ap (λ s. Some (Var 0 s)) (sym sort)

    -- an instance fits
    instance_fits : IsInstance a front rest d → HasFit a front rest d.body
    instance_fits i =
        let u = instance (plug d.hole (Var a.id a.sort) i.parameters) d.body in
        let exact = fits_exactly a.observers.now d (ok.derivatives d contains) contains a.id a.sort a.root.now u front rest sort i.hole i.there in
        (i.hole ∙ ap (λ s. Some (Var 0 s)) sort, record { subterm = u; there = i.there; fit = exact.from i })

    fit_instance : HasFit a front rest d.body → IsInstance a front rest d
    fit_instance f =
        (fits_exactly a.observers.now d (ok.derivatives d contains) contains a.id a.sort a.root.now f.1.subterm front rest sort (hole_here f.0) f.1.there).to f.1.fit

    pub owes_by : (o : Option ℕ) → OwesThere a front rest d.body o → OwesBy a (front ++ rest) x o
    owes_by None h = λ e q r s.
        let z = is_here e q r s in
        let P : List ℕ → Type 0 = λ y. IsInstance a y rest d in
        let Q : List ℕ → Type 0 = λ y. IsInstance a q y d in
        let R : Derivative → Type 0 = λ y. IsInstance a q r y in
        h (instance_fits (subst P (sym z.front_is) (subst Q (sym z.rest_is) (subst R (sym z.same) s.instance))))
    owes_by (Some k) h =
        let i = fit_instance h.0 in (
          elim h.1 [
            | inl v ↦ record {
              within = omega (arith, v.1);
              guards = λ G s. by_visible d front rest refl i v.0;
            }
            | inr v ↦ record {
              within = omega (arith, v.1, length-append front rest);
              guards = λ G s.
                  let e : take k (front ++ rest) ≡ front = ap (λ n. take n (front ++ rest)) v.1 ∙ take-append_seam front rest in
                  by_hidden d front rest refl i v.0 (subst (IsSpecial G a.root.now) e s);
            }
          ],
          (λ e q r s.
              let z = is_here e q r s in
              let P : Derivative → Type 0 = λ y. IsVisible a.observers.now (sort_of y.body) → k ≡ 0 in
              elim h.1 [
                | inl v ↦ record { visible = λ _. v.1; front = omega (arith, v.1) }
                | inr v ↦ record { visible = subst P z.same (λ w. absurd (w v.0)); front = omega (arith, v.1, ap length z.front_is) }
              ]),
        )

  -- the derivative of a look
  pub owes_by_look : IsWellFormed a.observers.now → (p front rest : List ℕ) → front ++ rest ≡ p → (x : Look) (body : Tree)
      → Some body ≡ option_map (λ d. d.body) (slice_get a.observers.now.derivatives x.number)
      → Some a.sort ≡ option_map (λ d. d.hole) (slice_get a.observers.now.derivatives x.number) → length rest ≡ x.steps
      → (o : Option ℕ) → OwesThere a front rest body o → OwesBy a p x o
  owes_by_look ok p front rest cut x body b s long o h = go (slice_get a.observers.now.derivatives x.number) refl
    where
      go : (m : Option Derivative) → slice_get a.observers.now.derivatives x.number ≡ m → OwesBy a p x o
      go None e = absurd (let z = rw e at b in cc)
      go (Some d) e =
          let body_is : body ≡ d.body = same_Some body d.body (b ∙ ap (option_map (λ d. d.body)) e) in
          let sort_is : a.sort ≡ d.hole = same_Some a.sort d.hole (s ∙ ap (option_map (λ d. d.hole)) e) in
          let P : Tree → Type 0 = λ t. OwesThere a front rest t o in
          let Q : List ℕ → Type 0 = λ y. OwesBy a y x o in
          subst Q cut (owes_by ok front rest x d e (sym sort_is) long o (subst P body_is h))

  -- where one step is left, the front leads to what is directly above
  pub front_here : (front rest : List ℕ) (here : Tree) (op : ℕ) → IsParent a (front ++ rest) here op → length rest ≡ 1 → at a.root.now front ≡ Some here
  front_here front rest here op p l =
      let n : length front ≡ length p.front = omega (arith, ap length p.cut, length-append front rest, length-append p.front (p.step ∷ []), l) in
      ap (at a.root.now) (same_front front p.front rest (p.step ∷ []) p.cut n) ∙ p.there

  pub front_fits : (front : List ℕ) (body u : Tree) (r : Bool) → at a.root.now front ≡ Some u → r ≡ fits a.id a.sort body u → IsTrue r ↔ FitsFront a front body
  front_fits front body u r e f = (
    (λ h. record { subterm = u; there = e; fit = sym f ∙ h }),
    (λ h. f ∙ ap (fits a.id a.sort body) (same_Some u h.subterm (sym e ∙ h.there)) ∙ h.fit),
  )

  -- ---- all derivatives

  module _ (ok : IsWellFormed a.observers.now) (p : List ℕ) (here : Tree) (op : ℕ) (parent : IsParent a p here op) (row : List Look)
      (is_row : IsRow a.observers.now.derivatives op row) (k : ℕ)
      (bound : (x : Look) → Contains row x → (d : Derivative) (q r : List ℕ) → IsSeen a p x d q r → IsAtMost a k d q) where
    -- an instance whose hole is below its root
    at_most : (d : Derivative) (q r s : List ℕ) (j : ℕ) → r ≡ s ++ j ∷ [] → p ≡ q ++ r → IsInstance a q r d → IsAtMost a k d q
    at_most d q r s j e cut i =
        let ds = a.observers.now.derivatives in
        let σ = plug d.hole (Var a.id a.sort) i.parameters in
        let hole : at d.body (s ++ j ∷ []) ≡ Some (Var 0 d.hole) = ap (at d.body) (sym e) ∙ i.hole in
        let up = above d.body s j (Var 0 d.hole) hole in
        let there : at a.root.now (q ++ s) ≡ Some (App up.op up.sort (instances σ up.args)) =
        at-append a.root.now (instance σ d.body) q s i.there ∙ at_instance σ s d.body (App up.op up.sort up.args) up.there in
        let same : parent.front ++ parent.step ∷ [] ≡ (q ++ s) ++ j ∷ [] = sym parent.cut ∙ cut ∙ ap (λ y. q ++ y) e ∙ sym (append_assoc q s (j ∷ [])) in
        let l : length parent.front ≡ length (q ++ s) =
        omega (arith, ap length same, length-append parent.front (parent.step ∷ []), length-append (q ++ s) (j ∷ [])) in
        let f : parent.front ≡ q ++ s = same_front parent.front (q ++ s) (parent.step ∷ []) (j ∷ []) same l in
        let both : App op parent.sort parent.args ≡ App up.op up.sort (instances σ up.args) =
        same_Some (App op parent.sort parent.args) (App up.op up.sort (instances σ up.args)) (ap Some (sym parent.is) ∙ sym parent.there ∙ ap (at a.root.now) f ∙ there) in
        let o : up.op ≡ op = cc in
        let listed : slice_get ds i.listed.0 ≡ Some d = slice_get_read ds (length ds) i.listed.0 d refl i.listed.1 (sym i.listed.2) in
        let P : ℕ → Type 0 = λ n. at d.body s ≡ Some (App n up.sort up.args) in
        let c = is_row i.listed.0 d listed s j up.sort d.hole up.args (subst P o up.there) hole in
        bound (look i.listed.0 (1 + length s)) c d q r
        (record { listed = listed; cut = cut; long = omega (arith, ap length e, length-append s (j ∷ [])); instance = i })

    least : (G : List Place) → IsGuarded a G p → AreSpecial a G k p
    least G (by_place h) = special_take G a.root.now k p h
    least G (by_visible d q r cut i v) = elim (ends r) [
      | inl e ↦
          let P : List ℕ → Type 0 = λ y. at d.body y ≡ Some (Var 0 d.hole) in
          let body : d.body ≡ Var 0 d.hole = same_Some d.body (Var 0 d.hole) (subst P e i.hole) in
          let Q : ℕ → Type 0 = IsHidden a.observers.now in
          absurd (v (subst Q (sym (ap sort_of body)) (record { derivative = d; listed = i.listed; hole = refl })))
      | inr h ↦
          let m = at_most d q r h.0 h.1 h.2 cut i in
          let P : ℕ → Type 0 = λ n. IsSpecial G a.root.now (take n p) in
          subst P (sym (m.visible v)) tt
    ]
    least G (by_hidden d q r cut i v h) = elim (ends r) [
      | inl e ↦
          let P : List ℕ → Type 0 = IsSpecial G a.root.now in
          special_take G a.root.now k p (subst P (sym (cut ∙ ap (λ y. q ++ y) e ∙ append-nil q)) h)
      | inr w ↦
          let m = at_most d q r w.0 w.1 w.2 cut i in
          let P : List ℕ → Type 0 = IsSpecial G a.root.now in
          subst P (sym (ap (take k) cut ∙ take-append-le k q r m.front)) (special_take G a.root.now k q h)
    ]

    pub owes_at : Suffices a p k → OwesAt a p k
    owes_at s = record { suffices = s; least = least }

  -- ---- one derivative after another

  pub met_first : (p : List ℕ) (row : List Look) → AreMet a p row 0 (length p)
  met_first p row = (
    record { within = omega arith; guards = λ G h. by_place (subst (IsSpecial G a.root.now) (ap (take (length p)) (sym (append-nil p)) ∙ take-append_seam p []) h) },
    (λ i x l. absurd (omega (arith, l))),
  )

  fewer : (j k : ℕ) (d : Derivative) (q : List ℕ) → j ≤ k → IsAtMost a k d q → IsAtMost a j d q
  fewer j k d q l h = record { visible = λ v. omega (arith, l, h.visible v); front = omega (arith, l, h.front) }

  pub met_next : (p : List ℕ) (row : List Look) (n k : ℕ) (x : Look) → slice_get row n ≡ Some x → AreMet a p row n k → (o : Option ℕ) → OwesBy a p x o
      → AreMet a p row (n + 1) (option_map_or (λ j. min k j) o k)
  met_next p row n k x there m None h = (
    m.0,
    (λ i y l e d q r s. elim (cases_lt i n) [
      | inl w ↦ m.1 i y w e d q r s
      | inr w ↦
          let same : n ≡ i = omega (arith, l, w) in
          let P : Look → Type 0 = λ z. IsSeen a p z d q r in
          absurd (h d q r (subst P (same_Some y x (sym e ∙ ap (slice_get row) (sym same) ∙ there)) s))
    ]),
  )
  met_next p row n k x there m (Some j) h = (
    elim (cases_lt j k) [
      | inl w ↦ let e : j ≡ min k j = omega arith in subst (Suffices a p) e h.0
      | inr w ↦ let e : k ≡ min k j = omega arith in subst (Suffices a p) e m.0
    ],
    (λ i y l e d q r s. elim (cases_lt i n) [
      | inl w ↦ fewer (min k j) k d q (omega arith) (m.1 i y w e d q r s)
      | inr w ↦
          let same : n ≡ i = omega (arith, l, w) in
          let P : Look → Type 0 = λ z. IsSeen a p z d q r in
          fewer (min k j) j d q (omega arith) (h.1 d q r (subst P (same_Some y x (sym e ∙ ap (slice_get row) (sym same) ∙ there)) s))
    ]),
  )

  pub met_all : (p : List ℕ) (row : List Look) (n k : ℕ) → length row ≤ n → AreMet a p row n k → AreMet a p row (length row) k
  met_all p row n k l m = (m.0, (λ i x w e d q r s. m.1 i x (omega (arith, l, w)) e d q r s))

  pub met_last : IsWellFormed a.observers.now → (p : List ℕ) (here : Tree) (op : ℕ) → IsParent a p here op → (row : List Look) → IsRow a.observers.now.derivatives op row
      → (k : ℕ) → AreMet a p row (length row) k → OwesAt a p k
  met_last ok p here op parent row is_row k m =
      owes_at ok p here op parent row is_row k
      (λ x c d q r s. m.1 c.0 x c.1 (slice_get_read row (length row) c.0 x refl c.1 (sym c.2)) d q r s) m.0

  -- ---- below a variable, and below an application

  pub owes_variable : (q : List ℕ) (old : List Place) (t : Tree) (k : ℕ) → t ≡ Var a.id a.sort → OwesAt a q k → Owes a q old old t k
  owes_variable q old t k e o = (
    o.suffices.within,
    (λ G. ((λ h. (h.0, (λ p z. below G (o.suffices.guards G h.1) p (sym (ap (λ x. at x p) e) ∙ z)))), (λ h. (h.0, o.least G (here G h.1))))),
  )
    where
      below : (G : List Place) → IsGuarded a G q → (p : List ℕ) → at (Var a.id a.sort) p ≡ Some (Var a.id a.sort) → IsGuarded a G (q ++ p)
      below G g [] z = subst (IsGuarded a G) (sym (append-nil q)) g
      below G g (i ∷ p) z = nowhere p (Var a.id a.sort) z

      here : (G : List Place) → GuardsBelow a G q t → IsGuarded a G q
      here G g = subst (IsGuarded a G) (append-nil q) (g [] (ap Some e))

  pub owes_nothing : (q : List ℕ) (old : List Place) (m s : ℕ) → (Var m s ≡ Var a.id a.sort → ⊥) → Owes a q old old (Var m s) 0
  owes_nothing q old m s other = (omega arith, (λ G. ((λ h. (h.0, below G)), (λ h. (h.0, tt)))))
    where
      below : (G : List Place) → GuardsBelow a G q (Var m s)
      below G [] z = absurd (other (same_Some (Var m s) (Var a.id a.sort) z))
      below G (i ∷ p) z = nowhere p (Var a.id a.sort) z

  application_guards : (G : List Place) (q : List ℕ) (f s : ℕ) (ts : Trees) → GuardsArgs a G q (list_of ts) ↔ GuardsBelow a G q (App f s ts)
  application_guards G q f s ts = (below, (λ g i t z p y. subst (IsGuarded a G) (sym (append_assoc q (i ∷ []) p)) (g (i ∷ p) (rw z y))))
    where
      at_arg : GuardsArgs a G q (list_of ts) → (i : ℕ) (p : List ℕ) (o : Option Tree) → slice_get (list_of ts) i ≡ o
          → at (App f s ts) (i ∷ p) ≡ Some (Var a.id a.sort) → IsGuarded a G (q ++ i ∷ p)
      at_arg all i p None z y = nowhere p (Var a.id a.sort) (rw z at y)
      at_arg all i p (Some t) z y = subst (IsGuarded a G) (append_assoc q (i ∷ []) p) (all i t z p (rw z at y))

      below : GuardsArgs a G q (list_of ts) → GuardsBelow a G q (App f s ts)
      below all [] z = absurd (let y = same_Some (App f s ts) (Var a.id a.sort) z in cc)
      below all (i ∷ p) z = at_arg all i p (slice_get (list_of ts) i) refl z

  pub owes_application : (q : List ℕ) (old new : List Place) (f s : ℕ) (ts : Trees) (k : ℕ) → OwesAll a q old new (list_of ts) k → Owes a q old new (App f s ts) k
  owes_application q old new f s ts k o = (
    o.0,
    (λ G. (
      (λ h. let x = (o.1 G).0 h in (x.0, (application_guards G q f s ts).0 x.1)),
      (λ h. (o.1 G).1 (h.0, (application_guards G q f s ts).1 h.1)),
    )),
  )

  pub owes_app : (q : List ℕ) (old new : List Place) (f s : ℕ) (us : List Tree) (t : Tree) → App f s (trees_of us) ≡ t → {E : Type 0} (r : Result ℕ E)
      → IfOk r (OwesAll a q old new us) → IfOk r (Owes a q old new t)
  owes_app q old new f s us t e (Err x) o = tt
  owes_app q old new f s us t e (Ok k) o =
      let P : Tree → Type 0 = λ u. Owes a q old new u k in
      let Q : List Tree → Type 0 = λ xs. OwesAll a q old new xs k in
      subst P e (owes_application q old new f s (trees_of us) k (subst Q (sym (list_of-trees_of us)) o))

  -- an argument stands one step further
  pub arg_there : (q : List ℕ) (i f s : ℕ) (us : List Tree) (here t : Tree) → at a.root.now q ≡ Some here → here ≡ App f s (trees_of us) → slice_get us i ≡ Some t
      → at a.root.now (q ++ i ∷ []) ≡ Some t
  arg_there q i f s us here t e is g =
      at-append a.root.now here q (i ∷ []) e ∙ ap (λ u. at u (i ∷ [])) is ∙ ap (λ xs. slice_get xs i) (list_of-trees_of us) ∙ g

  -- at the root nothing is owed
  pub owes_root : (old new : List Place) (k : ℕ) → Owes a [] old new a.root.now k → (G : List Place)
      → HasAll G new ↔ (HasAll G old × Guarded a.observers.now G a.root.now a.id a.sort)
  owes_root old new k o G =
      let e : k ≡ 0 = omega (arith, o.0) in
      let P : ℕ → Type 0 = λ n. AreSpecial a G n [] in
      let special : AreSpecial a G k [] = subst P (sym e) tt in (
        (λ h. let x = (o.1 G).0 (h, special) in (x.0, (λ p z. x.1 p z))),
        (λ h. ((o.1 G).1 (h.0, (λ p z. h.1 p z))).0),
      )

  -- ---- one argument after another

  pub owes_first : (q : List ℕ) (old : List Place) (ts : List Tree) → OwesTo a q old old ts 0 0
  owes_first q old ts = (omega arith, (λ G. ((λ h. (h.0, (λ i t l. absurd (omega (arith, l))))), (λ h. (h.0, tt)))))

  pub owes_last : (q : List ℕ) (old new : List Place) (ts : List Tree) (n k : ℕ) → length ts ≤ n → OwesTo a q old new ts n k → OwesAll a q old new ts k
  owes_last q old new ts n k l o = (
    o.0,
    (λ G. (
      (λ h. let x = (o.1 G).0 h in (x.0, (λ i t e. x.1 i t (omega (arith, l, slice_get_within ts i t e)) e))),
      (λ h. (o.1 G).1 (h.0, (λ i t w e. h.1 i t e))),
    )),
  )

  -- what is owed without the last step
  passes_special : (q : List ℕ) (i f s : ℕ) (us : List Tree) (t : Tree) → at a.root.now q ≡ Some (App f s (trees_of us)) → slice_get us i ≡ Some t
      → (steps k : ℕ) (mid new : List Place) → steps ≤ length (q ++ i ∷ []) → Passes (place f i) steps (length q) mid new k → (G : List Place)
      → (HasAll G new × AreSpecial a G k q) ↔ (HasAll G mid × AreSpecial a G steps (q ++ i ∷ []))
  passes_special q i f s us t there got steps k mid new within (inl h) G =
      let e : take steps (q ++ i ∷ []) ≡ take k q = take-append-le steps q (i ∷ []) h.0 ∙ ap (λ n. take n q) (sym h.1) in
      let P : List ℕ → Type 0 = IsSpecial G a.root.now in
      let Q : List Place → Type 0 = HasAll G in
      ((λ x. (subst Q h.2 x.0, subst P (sym e) x.1)), (λ x. (subst Q (sym h.2) x.0, subst P e x.1)))
  passes_special q i f s us t there got steps k mid new within (inr h) G =
      let l : length (q ++ i ∷ []) ≡ steps = omega (arith, within, h.0, length-append q (i ∷ [])) in
      let whole : take steps (q ++ i ∷ []) ≡ q ++ i ∷ [] = ap (λ n. take n (q ++ i ∷ [])) (sym l) ∙ all_of (q ++ i ∷ []) in
      let front : take k q ≡ q = ap (λ n. take n q) h.1 ∙ all_of q in
      let step = special_step G q a.root.now i f s (trees_of us) t there (ap (λ xs. slice_get xs i) (list_of-trees_of us) ∙ got) in
      let P : List ℕ → Type 0 = IsSpecial G a.root.now in (
        (λ x. let y = (h.2 G).0 x.0 in (y.0, subst P (sym whole) (step.1 (subst P front x.1, y.1)))),
        (λ x. let y = step.0 (subst P whole x.1) in ((h.2 G).1 (x.0, y.1), subst P (sym front) y.0)),
      )
    where
      all_of : (xs : List ℕ) → take (length xs) xs ≡ xs
      all_of xs = ap (take (length xs)) (sym (append-nil xs)) ∙ take-append_seam xs []

  pub owes_next : (q : List ℕ) (i f s : ℕ) (us : List Tree) (t : Tree) → at a.root.now q ≡ Some (App f s (trees_of us)) → slice_get us i ≡ Some t
      → (owed steps k : ℕ) (old first mid new : List Place) → OwesTo a q old first us i owed → Owes a (q ++ i ∷ []) first mid t steps
      → Passes (place f i) steps (length q) mid new k → OwesTo a q old new us (i + 1) (max owed k)
  owes_next q i f s us t there got owed steps k old first mid new o arg pass = (
    elim pass [ inl h ↦ omega (arith, o.0, h.0, h.1) | inr h ↦ omega (arith, o.0, h.1) ],
    (λ G.
        let both = take_max G a.root.now owed k q in
        let passed = passes_special q i f s us t there got steps k mid new arg.0 pass G in (
          (λ h.
              let parts = both.0 h.1 in
              let x = passed.0 (h.0, parts.1) in
              let y = (arg.1 G).0 x in
              let z = (o.1 G).0 (y.0, parts.0) in
              (z.0, more G z.1 y.1)),
          (λ h.
              let z = (o.1 G).1 (h.0, (λ j u l e. h.1 j u (omega (arith, l)) e)) in
              let y = (arg.1 G).1 (z.0, h.1 i t (omega arith) got) in
              let x = passed.1 y in
              (x.0, both.1 (z.1, x.1))),
        )),
  )
    where
      more : (G : List Place) → GuardsArgsTo a G q us i → GuardsBelow a G (q ++ i ∷ []) t → GuardsArgsTo a G q us (i + 1)
      more G each g j u l e = elim (cases_lt j i) [
        | inl h ↦ each j u h e
        | inr h ↦
            let same : i ≡ j = omega (arith, l, h) in
            let P : ℕ → Type 0 = λ n. GuardsBelow a G (q ++ n ∷ []) t in
            let Q : Tree → Type 0 = GuardsBelow a G (q ++ j ∷ []) in
            subst Q (same_Some t u (sym got ∙ ap (slice_get us) same ∙ e)) (subst P same g)
      ]
