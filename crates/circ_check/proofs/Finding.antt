-- What a checker has found that took all parts of a proof.
use Rattle.std.proofs.Common.{◌≡◌, ◌⊎◌, ◌+◌, ℕ, Bool, true, false, List, [], ◌∷◌, ◌++◌, map, length, Some, None}
use Rattle.std.proofs.Common.{inl, inr, refl, ap, sym, subst, ◌∙◌, arith, append_assoc, append-nil}
use Rattle.std.specs.List.{AllByRecursion}
use Rattle.std.specs.Option.{option_or}
use Rattle.circ_term.specs.Tree.{Tree}
use Rattle.circ_theory.specs.Theory.{Theory, Derivative}
use Rattle.circ_theory.specs.Rewriting.{named}
use Rattle.circ_theory.specs.Goal.{Goal}
use Rattle.circ_special.specs.declared.place.Place.{Place}
use Rattle.circ_proof.specs.Plain.{LinkOf}
use Rattle.circ_proof.specs.Link.{resolved_links}
use Rattle.circ_proof.specs.Runs.{Runs, FailsFirst}
use Rattle.circ_proof.specs.Rules.{State, state, ProofStep, Simplify, Reduce, Derive, Cases, Done, map_step, StepOf, StepOn, StepsOf}
use Rattle.circ_proof.specs.Certified.{due, AreCertified, CertificateFails}
use Rattle.circ_proof.specs.Proof.{Block, Proof, ProofFor, IsBlockFor}
use Rattle.circ_proof.specs.Accepted.{steps_of, BlocksDerive, BlockFails, Derives, FirstFail}
use Rattle.circ_proof.specs.Parts.{Part, Head, Certificate, Goals, Step, certificate_parts, step_parts, block_parts, parts_of}
use Rattle.circ_proof.proofs.Stepping.{steps_end}
use Rattle.circ_check.specs.Checking.{Checking, TakesCertificate, TakesGoals, TakesStep, TakesPart, StandFor, nothing_taken, made_by, with_derived}

-- one part more
pub part_more : (th : Theory) (xs : List Part) (x : Part) (a b c : Checking) → Runs (TakesPart th) xs a b → TakesPart th x b c
    → Runs (TakesPart th) (xs ++ x ∷ []) a c
part_more th [] x a b c r t = let P : Checking → Type 0 = λ y. TakesPart th x y c in (c, subst P (sym r) t, refl)
part_more th (y ∷ xs) x a b c r t = (r.0, r.1, part_more th xs x r.0 b c r.2 t)

-- ---- what failed stays

certificate_stays : (th : Theory) (c d : Checking) (xs : List (Place × Derivative)) (ls : List (LinkOf Tree)) (n : ℕ) → TakesCertificate th c xs ls d
    → c.tally.failed ≡ Some n → d.tally.failed ≡ Some n
certificate_stays th c d [] ls n t e = absurd t
certificate_stays th c d (x ∷ xs) ls n (inl t) e = ap (λ y. y.tally.failed) t.1 ∙ e
certificate_stays th c d (x ∷ xs) ls n (inr t) e = ap (λ y. y.tally.failed) t.1 ∙ ap (λ o. option_or o (Some (c.tally.count + 1))) e

step_stays : (th : Theory) (c d : Checking) (b : Bool) (s : ProofStep ℕ) (n : ℕ) → TakesStep th c b s d → c.tally.failed ≡ Some n → d.tally.failed ≡ Some n
step_stays th c d true s n t e = ap (λ y. y.tally.failed) t ∙ e
step_stays th c d false s n (inl t) e = ap (λ y. y.tally.failed) t.2 ∙ e
step_stays th c d false s n (inr t) e = ap (λ y. y.tally.failed) t.1 ∙ ap (λ o. option_or o (Some (c.tally.count + 1))) e

goals_stay : (c d : Checking) (b : Bool) (gs : List Goal) (n : ℕ) → TakesGoals c b gs d → c.tally.failed ≡ Some n → d.tally.failed ≡ Some n
goals_stay c d true gs n t e = ap (λ y. y.tally.failed) t ∙ e
goals_stay c d false gs n t e = ap (λ y. y.tally.failed) t ∙ e

part_stays : (th : Theory) (x : Part) (c d : Checking) (n : ℕ) → TakesPart th x c d → c.tally.failed ≡ Some n → d.tally.failed ≡ Some n
part_stays th (Head ts ps) c d n t e = ap (λ y. y.tally.failed) t ∙ e
part_stays th (Certificate ls) c d n t e = certificate_stays th c d c.due (resolved_links c.table ls) n t e
part_stays th (Goals gs ns) c d n t e = goals_stay c d c.stopped gs n t e
part_stays th (Step s) c d n t e = step_stays th c d c.stopped s n t e

-- The part is taken; or something failed before it, and only that stays.
abbrev Passes : Theory → Part → Checking → Checking → Type 0
Passes th x c d = TakesPart th x c d ⊎ ((n : ℕ) × (c.tally.failed ≡ Some n) × (d.tally.failed ≡ Some n))

-- where nothing failed before
taken_so_far : (th : Theory) (x : Part) (c d : Checking) → c.tally.failed ≡ None → Passes th x c d → TakesPart th x c d
taken_so_far th x c d e (inl t) = t
taken_so_far th x c d e (inr f) = absurd (let z = sym e ∙ f.1 in cc)

pass_stays : (th : Theory) (x : Part) (c d : Checking) (n : ℕ) → Passes th x c d → c.tally.failed ≡ Some n → d.tally.failed ≡ Some n
pass_stays th x c d n (inl t) e = part_stays th x c d n t e
pass_stays th x c d n (inr f) e = f.2 ∙ sym f.1 ∙ e

failed_stays : (th : Theory) (xs : List Part) (c d : Checking) (n : ℕ) → Runs (Passes th) xs c d → c.tally.failed ≡ Some n → d.tally.failed ≡ Some n
failed_stays th [] c d n r e = sym (ap (λ y. y.tally.failed) r) ∙ e
failed_stays th (x ∷ xs) c d n r e = failed_stays th xs r.0 d n r.2 (pass_stays th x c r.0 n r.1 e)

-- behind a failure all parts pass
passed_by : (th : Theory) (xs : List Part) (c : Checking) (n : ℕ) → c.tally.failed ≡ Some n → Runs (Passes th) xs c c
passed_by th [] c n e = refl
passed_by th (x ∷ xs) c n e = (c, inr (n, e, e), passed_by th xs c n e)

passed : (th : Theory) (xs ys : List Part) (a c d : Checking) → Runs (TakesPart th) xs a c → Runs (Passes th) ys c d → Runs (Passes th) (xs ++ ys) a d
passed th [] ys a c d r s = let P : Checking → Type 0 = λ y. Runs (Passes th) ys y d in subst P (sym r) s
passed th (x ∷ xs) ys a c d r s = (r.0, inl r.1, passed th xs ys r.0 c d r.2 s)

-- ---- lists of what was derived

pub with_none : (dss : List (List Goal)) → with_derived dss [] ≡ dss
with_none [] = refl
with_none (ds ∷ []) = ap (λ x. x ∷ []) (append-nil ds)
with_none (ds ∷ es ∷ dss) = ap (λ x. ds ∷ x) (with_none (es ∷ dss))

with_both : (dss : List (List Goal)) (gs hs : List Goal) → with_derived (with_derived dss gs) hs ≡ with_derived dss (gs ++ hs)
with_both [] gs hs = refl
with_both (ds ∷ []) gs hs = ap (λ x. x ∷ []) (append_assoc ds gs hs)
with_both (ds ∷ es ∷ []) gs hs = ap (λ x. ds ∷ x) (with_both (es ∷ []) gs hs)
with_both (ds ∷ es ∷ fs ∷ dss) gs hs = ap (λ x. ds ∷ x) (with_both (es ∷ fs ∷ dss) gs hs)

with_last : (dss : List (List Goal)) (gs : List Goal) → with_derived (dss ++ [] ∷ []) gs ≡ dss ++ gs ∷ []
with_last [] gs = refl
with_last (ds ∷ []) gs = refl
with_last (ds ∷ es ∷ dss) gs = ap (λ x. ds ∷ x) (with_last (es ∷ dss) gs)

-- ---- steps

-- what a step appends to the hypotheses
made_on : (th : Theory) (G : List Place) (name : ℕ → Tree) (s : ProofStep ℕ) (H gs : List Goal) (b : State) → StepOn th G (map_step name s) H gs b
    → b.hypotheses ≡ H ++ made_by s gs
made_on th G name (Simplify c) H [] b r = absurd r
made_on th G name (Simplify c) H (g ∷ gs) b r = ap (λ x. x.hypotheses) r.2 ∙ sym (append-nil H)
made_on th G name (Reduce w) H [] b r = absurd r
made_on th G name (Reduce w) H (g ∷ gs) b r = ap (λ x. x.hypotheses) r.1 ∙ sym (append-nil H)
made_on th G name Derive H [] b r = absurd r
made_on th G name Derive H (g ∷ gs) b r = ap (λ x. x.hypotheses) r.2
made_on th G name (Cases u) H [] b r = absurd r
made_on th G name (Cases u) H (g ∷ gs) b r = ap (λ x. x.hypotheses) r.3 ∙ sym (append-nil H)
made_on th G name Done H [] b r = ap (λ x. x.hypotheses) r ∙ sym (append-nil H)
made_on th G name Done H (g ∷ gs) b r = absurd r

pub step_makes : (th : Theory) (G : List Place) (name : ℕ → Tree) (s : ProofStep ℕ) (a b : State) → StepOf th G (map_step name s) a b
    → b.hypotheses ≡ a.hypotheses ++ made_by s a.goals
step_makes th G name s a b r = made_on th G name s a.hypotheses a.goals b r

module _ (th : Theory) (p : Proof) where
  -- where nothing has failed, behind n certificates and steps
  abbrev here : (before own : List Goal) → State → ℕ → (derived : List (List Goal)) → Checking
  here B O a n D = record {
    table = p.table;
    places = p.places;
    due = [];
    before = B;
    own = O;
    state = a;
    stopped = false;
    tally = record { count = n; failed = None };
    derived = D;
  }

  abbrev resolved : List (ProofStep ℕ) → List (ProofStep Tree)
  resolved ss = map (map_step (named p.table)) ss

  -- the steps lead to a state, at which the other parts are taken
  record Lead (ss : List (ProofStep ℕ)) (k : List Part) (B O : List Goal) (a : State) (n : ℕ) (D : List (List Goal)) (e : Checking) : Type 0 where
    last : State
    made : List Goal
    leads : StepsOf th p.places (resolved ss) a last
    grown : last.hypotheses ≡ a.hypotheses ++ made
    rest : Runs (Passes th) k (here B O last (n + length ss) (with_derived D made)) e

  -- or one of them fails
  record Fall (ss : List (ProofStep ℕ)) (a : State) (n : ℕ) (e : Checking) : Type 0 where
    number : ℕ
    first : FailsFirst (StepOf th p.places) (resolved ss) a number
    failed : e.tally.failed ≡ Some (n + number)

  steps_taken : (ss : List (ProofStep ℕ)) (k : List Part) (B O : List Goal) (a : State) (n : ℕ) (D : List (List Goal)) (e : Checking)
      → Runs (Passes th) (step_parts ss ++ k) (here B O a n D) e → Lead ss k B O a n D e ⊎ Fall ss a n e
  steps_taken [] k B O a n D e r =
      let z : n ≡ n + 0 = omega arith in
      let P : ℕ → Type 0 = λ m. Runs (Passes th) k (here B O a m D) e in
      let Q : List (List Goal) → Type 0 = λ x. Runs (Passes th) k (here B O a (n + 0) x) e in
      inl (record { last = a; made = []; leads = refl; grown = sym (append-nil a.hypotheses); rest = subst Q (sym (with_none D)) (subst P z r) })
  steps_taken (s ∷ ss) k B O a n D e r = go (taken_so_far th (Step s) (here B O a n D) r.0 refl r.1) (λ b m E x. steps_taken ss k B O b m E e x)
    where
      go : TakesStep th (here B O a n D) false s r.0
          → ((b : State) (m : ℕ) (E : List (List Goal)) → Runs (Passes th) (step_parts ss ++ k) (here B O b m E) e → Lead ss k B O b m E e ⊎ Fall ss b m e)
          → Lead (s ∷ ss) k B O a n D e ⊎ Fall (s ∷ ss) a n e
      go (inl t) rest =
          let P : Checking → Type 0 = λ y. Runs (Passes th) (step_parts ss ++ k) y e in
          let D' : List (List Goal) = with_derived D (made_by s a.goals) in
          elim (rest t.0 (n + 1) D' (subst P t.2 r.2)) [
            | inl l ↦
                let count : n + 1 + length ss ≡ n + length (s ∷ ss) = omega arith in
                let Q : ℕ → Type 0 = λ m. Runs (Passes th) k (here B O l.last m (with_derived D' l.made)) e in
                let R : List (List Goal) → Type 0 = λ x. Runs (Passes th) k (here B O l.last (n + length (s ∷ ss)) x) e in
                inl (record {
                  last = l.last;
                  made = made_by s a.goals ++ l.made;
                  leads = (t.0, t.1, l.leads);
                  grown = l.grown ∙ ap (λ x. x ++ l.made) (step_makes th p.places (named p.table) s a t.0 t.1)
                      ∙ append_assoc a.hypotheses (made_by s a.goals) l.made;
                  rest = subst R (with_both D (made_by s a.goals) l.made) (subst Q count l.rest);
                })
            | inr f ↦
                let count : n + 1 + f.number ≡ n + (f.number + 1) = omega arith in
                inr (record { number = f.number + 1; first = inr (t.0, t.1, f.number, refl, f.first); failed = f.failed ∙ ap Some count })
          ]
      go (inr t) rest = inr (record {
        number = 1;
        first = inl (refl, t.0);
        failed = failed_stays th (step_parts ss ++ k) r.0 e (n + 1) r.2 (ap (λ y. y.tally.failed) t.1);
      })

  -- ---- blocks

  record BlocksLead (H : List Goal) (bs : List Block) (D : List (List Goal)) (e : Checking) : Type 0 where
    made : List (List Goal)
    leads : BlocksDerive th p H bs made
    none : e.tally.failed ≡ None
    derived : e.derived ≡ D ++ made

  record BlocksFall (H : List Goal) (bs : List Block) (n : ℕ) (e : Checking) : Type 0 where
    number : ℕ
    first : BlockFails th p H bs number
    failed : e.tally.failed ≡ Some (n + number)

  blocks_taken : (bs : List Block) → AllByRecursion (IsBlockFor th p.table) bs → (B O : List Goal) (a : State) (n : ℕ) (D : List (List Goal)) (e : Checking)
      → Runs (Passes th) (block_parts bs) (here B O a n D) e → BlocksLead (B ++ O) bs D e ⊎ BlocksFall (B ++ O) bs n e
  blocks_taken [] f B O a n D e r =
      inl (record { made = []; leads = tt; none = sym (ap (λ y. y.tally.failed) r); derived = sym (ap (λ y. y.derived) r) ∙ sym (append-nil D) })
  blocks_taken (b ∷ bs) f B O a n D e r =
      let H : List Goal = B ++ O in
      let P : Checking → Type 0 = λ y. Runs (Passes th) (step_parts b.steps ++ block_parts bs) y e in
      elim (steps_taken b.steps (block_parts bs) H b.goals (state H b.goals) n (D ++ [] ∷ []) e
      (subst P (taken_so_far th (Goals b.goals b.names) (here B O a n D) r.0 refl r.1) r.2)) [
        | inl l ↦
            let ended : l.last.goals ≡ [] = steps_end th p.places (named p.table) b.steps (state H b.goals) l.last f.0.ended l.leads in
            let end : l.last ≡ state (H ++ l.made) [] = ap (λ x. state x l.last.goals) l.grown ∙ ap (state (H ++ l.made)) ended in
            let S : State → Type 0 = StepsOf th p.places (steps_of p.table b) (state H b.goals) in
            let run : StepsOf th p.places (steps_of p.table b) (state H b.goals) (state (H ++ l.made) []) = subst S end l.leads in
            elim (blocks_taken bs f.1 H b.goals l.last (n + length b.steps) (with_derived (D ++ [] ∷ []) l.made) e l.rest) [
              | inl m ↦ inl (record {
                made = l.made ∷ m.made;
                leads = (run, m.leads);
                none = m.none;
                derived = m.derived ∙ ap (λ x. x ++ m.made) (with_last D l.made) ∙ append_assoc D (l.made ∷ []) m.made;
              })
              | inr g ↦
                  let count : n + length b.steps + g.number ≡ n + (length b.steps + g.number) = omega arith in
                  inr (record {
                    number = length b.steps + g.number;
                    first = inr (state (H ++ l.made) [], run, g.number, refl, g.first);
                    failed = g.failed ∙ ap Some count;
                  })
            ]
        | inr g ↦ inr (record { number = g.number; first = inl g.first; failed = g.failed })
      ]

  -- ---- certificates

  -- where nothing has failed, with these certificates still due
  abbrev at_front : List (Place × Derivative) → ℕ → Checking
  at_front xs n = record nothing_taken { table = p.table; places = p.places; due = xs; tally = record { count = n; failed = None } }

  abbrev resolved_all : List (List (LinkOf ℕ)) → List (List (LinkOf Tree))
  resolved_all lss = map (resolved_links p.table) lss

  record AllHold (lss : List (List (LinkOf ℕ))) (k : List Part) (xs : List (Place × Derivative)) (n : ℕ) (e : Checking) : Type 0 where
    hold : AreCertified th p.places xs (resolved_all lss)
    rest : Runs (Passes th) k (at_front [] (n + length lss)) e

  record OneFails (lss : List (List (LinkOf ℕ))) (xs : List (Place × Derivative)) (n : ℕ) (e : Checking) : Type 0 where
    number : ℕ
    first : CertificateFails th p.places xs (resolved_all lss) number
    failed : e.tally.failed ≡ Some (n + number)

  certificates_taken : (lss : List (List (LinkOf ℕ))) (k : List Part) (xs : List (Place × Derivative)) (n : ℕ) (e : Checking) → length lss ≡ length xs
      → Runs (Passes th) (certificate_parts lss ++ k) (at_front xs n) e → AllHold lss k xs n e ⊎ OneFails lss xs n e
  certificates_taken [] k [] n e l r =
      let z : n ≡ n + 0 = omega arith in
      let P : ℕ → Type 0 = λ m. Runs (Passes th) k (at_front [] m) e in
      inl (record { hold = tt; rest = subst P z r })
  certificates_taken [] k (x ∷ xs) n e l r = absurd (omega (arith, l))
  certificates_taken (ls ∷ lss) k [] n e l r = absurd (omega (arith, l))
  certificates_taken (ls ∷ lss) k (x ∷ xs) n e l r =
      go (taken_so_far th (Certificate ls) (at_front (x ∷ xs) n) r.0 refl r.1) (λ m y. certificates_taken lss k xs m e (omega (arith, l)) y)
    where
      go : TakesCertificate th (at_front (x ∷ xs) n) (x ∷ xs) (resolved_links p.table ls) r.0
          → ((m : ℕ) → Runs (Passes th) (certificate_parts lss ++ k) (at_front xs m) e → AllHold lss k xs m e ⊎ OneFails lss xs m e)
          → AllHold (ls ∷ lss) k (x ∷ xs) n e ⊎ OneFails (ls ∷ lss) (x ∷ xs) n e
      go (inl t) rest =
          let P : Checking → Type 0 = λ y. Runs (Passes th) (certificate_parts lss ++ k) y e in
          elim (rest (n + 1) (subst P t.1 r.2)) [
            | inl h ↦
                let count : n + 1 + length lss ≡ n + length (ls ∷ lss) = omega arith in
                let Q : ℕ → Type 0 = λ m. Runs (Passes th) k (at_front [] m) e in
                inl (record { hold = (t.0, h.hold); rest = subst Q count h.rest })
            | inr f ↦
                let count : n + 1 + f.number ≡ n + (f.number + 1) = omega arith in
                inr (record { number = f.number + 1; first = inr (t.0, f.number, refl, f.first); failed = f.failed ∙ ap Some count })
          ]
      go (inr t) rest = inr (record {
        number = 1;
        first = inl (refl, t.0);
        failed = failed_stays th (certificate_parts lss ++ k) r.0 e (n + 1) r.2 (ap (λ y. y.tally.failed) t.1);
      })

  -- ---- the whole proof

  -- nothing failed, and this was derived
  pub record FoundNothing (e : Checking) : Type 0 where
    pub none : e.tally.failed ≡ None
    pub derives : Derives th p e.derived

  -- the proof fails first at this number
  pub record FoundFailure (e : Checking) : Type 0 where
    pub number : ℕ
    pub some : e.tally.failed ≡ Some number
    pub first : FirstFail th p number

  parts_passed : ProofFor th p → (e : Checking) → Runs (Passes th) (parts_of p) nothing_taken e → FoundNothing e ⊎ FoundFailure e
  parts_passed f e r =
      let P : Checking → Type 0 = λ y. Runs (Passes th) (certificate_parts p.certificates ++ block_parts p.blocks) y e in
      elim (certificates_taken p.certificates (block_parts p.blocks) (due th p.places) 0 e f.one_each
      (subst P (taken_so_far th (Head p.table p.places) nothing_taken r.0 refl r.1) r.2)) [
        | inl h ↦ elim (blocks_taken p.blocks f.blocks [] [] (state [] []) (0 + length p.certificates) [] e h.rest) [
          | inl m ↦
              let Q : List (List Goal) → Type 0 = BlocksDerive th p [] p.blocks in
              inl (record { none = m.none; derives = record { admissible = h.hold; blocks = subst Q (sym m.derived) m.leads } })
          | inr g ↦
              let count : 0 + length p.certificates + g.number ≡ length p.certificates + g.number = omega arith in
              inr (record { number = length p.certificates + g.number; some = g.failed ∙ ap Some count; first = inr (h.hold, g.number, refl, g.first) })
        ]
        | inr g ↦
            let count : 0 + g.number ≡ g.number = omega arith in
            inr (record { number = g.number; some = g.failed ∙ ap Some count; first = inl g.first })
      ]

  pub parts_taken : ProofFor th p → (e : Checking) → StandFor th (parts_of p) e → FoundNothing e ⊎ FoundFailure e
  parts_taken f e r =
      let P : List Part → Type 0 = λ xs. Runs (Passes th) xs nothing_taken e in
      parts_passed f e (subst P (append-nil (parts_of p)) (passed th (parts_of p) [] nothing_taken e e r refl))

  -- what failed among the first parts is the first failure
  pub failed_early : ProofFor th p → (xs ys : List Part) (c : Checking) (n : ℕ) → parts_of p ≡ xs ++ ys → StandFor th xs c → c.tally.failed ≡ Some n
      → FirstFail th p n
  failed_early f xs ys c n all r e =
      let P : List Part → Type 0 = λ zs. Runs (Passes th) zs nothing_taken c in
      let Q : ℕ → Type 0 = FirstFail th p in
      elim (parts_passed f c (subst P (sym all) (passed th xs ys nothing_taken c c r (passed_by th ys c n e)))) [
        | inl m ↦ absurd (let z = sym m.none ∙ e in cc)
        | inr m ↦ let same : m.number ≡ n = (let z : Some m.number ≡ Some n = sym m.some ∙ e in cc) in subst Q same m.first
      ]
