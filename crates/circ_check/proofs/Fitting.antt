-- A part that fits behind earlier parts is what a checker needs that has taken these.
use Rattle.std.proofs.Common.{◌≡◌, ◌+◌, ◌<◌, ◌≤◌, ℕ, Bool, true, false, List, [], ◌∷◌, ◌++◌, length}
use Rattle.std.proofs.Common.{inl, inr, refl, ap, sym, subst, ◌∙◌, arith}
use Rattle.std.specs.List.{AllByRecursion}
use Rattle.circ_term.specs.Tree.{Tree}
use Rattle.circ_theory.specs.Signature.{IsWellSorted}
use Rattle.circ_theory.specs.Theory.{Theory, Derivative}
use Rattle.circ_theory.specs.WellFormed.{IsWellFormed}
use Rattle.circ_theory.specs.Goal.{Goal}
use Rattle.circ_special.specs.declared.place.Place.{Place}
use Rattle.circ_special.specs.Special.{IsSet}
use Rattle.circ_proof.specs.Goals.{AreSortedGoals}
use Rattle.circ_proof.specs.Plain.{LinkOf}
use Rattle.circ_proof.specs.Runs.{Runs}
use Rattle.circ_proof.specs.Rules.{ProofStep, Simplify, Reduce, Derive, Cases, Done}
use Rattle.circ_proof.specs.Certified.{due}
use Rattle.circ_proof.specs.Proof.{GoalNames, Block, Proof, ProofFor, AreLinksFor, IsStepFor, IsBlockFor, IsConditionFor, IsNameFor, step_limit, steps_in}
use Rattle.circ_proof.specs.Parts.{Part, Head, Certificate, Goals, Step, certificate_parts, step_parts, block_parts, parts_of}
use Rattle.circ_proof.specs.Fitting.{AreGoalsFor, FitSteps, FitBlocks, FitRest, Fit}
use Rattle.circ_proof.proofs.FewPlaces.{few_due}
use Rattle.circ_proof.proofs.Sorted.{sorted_none, sorted_append}
use Rattle.circ_soundness.proofs.Blocks.{names_sorted}
use Rattle.circ_check.specs.Checking.{Checking, TakesCertificate, TakesGoals, TakesStep, TakesPart, StandFor, nothing_taken}
use Rattle.circ_check.specs.Ready.{IsPartReady}
use Rattle.circ_check.specs.Naming.{IsNameWithin, AreNamedGoals}

-- ---- goals and steps, where m steps were before

abbrev Later : Theory → List Tree → ℕ → List Part → Type 0
Later th ts m [] = Unit {0}
Later th ts m (Goals gs ns ∷ xs) = AreGoalsFor th ts gs ns × Later th ts m xs
Later th ts m (Step s ∷ xs) = (m < step_limit) × IsStepFor (length ts) s × Later th ts (m + 1) xs
Later th ts m (Head us gs ∷ xs) = ⊥
Later th ts m (Certificate ls ∷ xs) = ⊥

mutual
  steps_later : (th : Theory) (ts : List Tree) (m : ℕ) (xs : List Part) → FitSteps th ts m xs → Later th ts m xs
  steps_later th ts m [] f = tt
  steps_later th ts m (Step Done ∷ xs) f = (f.0, tt, blocks_later th ts (m + 1) xs f.1)
  steps_later th ts m (Step (Simplify c) ∷ xs) f = (f.0, f.1, steps_later th ts (m + 1) xs f.2)
  steps_later th ts m (Step (Reduce w) ∷ xs) f = (f.0, f.1, steps_later th ts (m + 1) xs f.2)
  steps_later th ts m (Step Derive ∷ xs) f = (f.0, f.1, steps_later th ts (m + 1) xs f.2)
  steps_later th ts m (Step (Cases u) ∷ xs) f = (f.0, f.1, steps_later th ts (m + 1) xs f.2)
  steps_later th ts m (Head us gs ∷ xs) f = absurd f
  steps_later th ts m (Certificate ls ∷ xs) f = absurd f
  steps_later th ts m (Goals gs ns ∷ xs) f = absurd f

  blocks_later : (th : Theory) (ts : List Tree) (m : ℕ) (xs : List Part) → FitBlocks th ts m xs → Later th ts m xs
  blocks_later th ts m [] f = tt
  blocks_later th ts m (Goals gs ns ∷ xs) f = (f.0, steps_later th ts m xs f.1)
  blocks_later th ts m (Head us gs ∷ xs) f = absurd f
  blocks_later th ts m (Certificate ls ∷ xs) f = absurd f
  blocks_later th ts m (Step s ∷ xs) f = absurd f

-- ---- what stays

-- d has the table, the special set and the blocks of c, and n more is counted
record Keeps (c d : Checking) (n : ℕ) : Type 0 where
  table : d.table ≡ c.table
  places : d.places ≡ c.places
  goals : d.before ++ d.own ≡ c.before ++ c.own
  count : d.tally.count ≡ c.tally.count + n

step_keeps : (th : Theory) (c d : Checking) (b : Bool) (s : ProofStep ℕ) → TakesStep th c b s d → Keeps c d 1
step_keeps th c d true s t = record {
  table = ap (λ x. x.table) t;
  places = ap (λ x. x.places) t;
  goals = ap (λ x. x.before ++ x.own) t;
  count = ap (λ x. x.tally.count) t;
}
step_keeps th c d false s (inl t) = record {
  table = ap (λ x. x.table) t.2;
  places = ap (λ x. x.places) t.2;
  goals = ap (λ x. x.before ++ x.own) t.2;
  count = ap (λ x. x.tally.count) t.2;
}
step_keeps th c d false s (inr t) = record {
  table = ap (λ x. x.table) t.1;
  places = ap (λ x. x.places) t.1;
  goals = ap (λ x. x.before ++ x.own) t.1;
  count = ap (λ x. x.tally.count) t.1;
}

-- one certificate less is due
record KeepsDue (c d : Checking) : Type 0 where
  keeps : Keeps c d 1
  due : length c.due ≡ length d.due + 1

certificate_keeps : (th : Theory) (c d : Checking) (xs : List (Place × Derivative)) (ls : List (LinkOf Tree)) → c.due ≡ xs → TakesCertificate th c xs ls d
    → KeepsDue c d
certificate_keeps th c d [] ls e t = absurd t
certificate_keeps th c d (x ∷ xs) ls e (inl t) = record {
  keeps = record {
    table = ap (λ x. x.table) t.1;
    places = ap (λ x. x.places) t.1;
    goals = ap (λ x. x.before ++ x.own) t.1;
    count = ap (λ x. x.tally.count) t.1;
  };
  due = omega (arith, ap length e, ap (λ x. length x.due) t.1);
}
certificate_keeps th c d (x ∷ xs) ls e (inr t) = record {
  keeps = record {
    table = ap (λ x. x.table) t.1;
    places = ap (λ x. x.places) t.1;
    goals = ap (λ x. x.before ++ x.own) t.1;
    count = ap (λ x. x.tally.count) t.1;
  };
  due = omega (arith, ap length e, ap (λ x. length x.due) t.1);
}

-- What holds after the head: the table is that of the head, and so is the special set.
record Knows (th : Theory) (ts : List Tree) (ps : List Place) (c : Checking) : Type 0 where
  table : c.table ≡ ts
  places : c.places ≡ ps
  sorted : AllByRecursion (IsWellSorted th.signature) ts
  set : IsSet th ps
  goals : AreSortedGoals th (c.before ++ c.own)

kept_known : (th : Theory) (ts : List Tree) (ps : List Place) (c d : Checking) (n : ℕ) → Knows th ts ps c → Keeps c d n → Knows th ts ps d
kept_known th ts ps c d n k s = record {
  table = s.table ∙ k.table;
  places = s.places ∙ k.places;
  sorted = k.sorted;
  set = k.set;
  goals = subst (AreSortedGoals th) (sym s.goals) k.goals;
}

goals_sorted : (th : Theory) (ts : List Tree) → AllByRecursion (IsWellSorted th.signature) ts → (gs : List Goal) (ns : List GoalNames) → AreGoalsFor th ts gs ns
    → AreSortedGoals th gs
goals_sorted th ts a gs ns f = subst (AreSortedGoals th) (sym f.goals_are) (names_sorted th ts a ns f.names_fit)

-- ---- names

conditions_within : (th : Theory) (ts : List Tree) (ns : List (ℕ × ℕ)) → AllByRecursion (IsConditionFor th ts) ns
    → AllByRecursion (λ n. (n.0 < length ts) × (n.1 < length ts)) ns
conditions_within th ts [] a = tt
conditions_within th ts (n ∷ ns) a = ((a.0.left, a.0.right), conditions_within th ts ns a.1)

names_within : (th : Theory) (ts : List Tree) (ns : List GoalNames) → AllByRecursion (IsNameFor th ts) ns → AllByRecursion (IsNameWithin (length ts)) ns
names_within th ts [] a = tt
names_within th ts (n ∷ ns) a =
    (record { left = a.0.left; right = a.0.right; conds = conditions_within th ts n.conds a.0.conds }, names_within th ts ns a.1)

goals_named : (th : Theory) (ts : List Tree) (gs : List Goal) (ns : List GoalNames) → AreGoalsFor th ts gs ns → AreNamedGoals ts gs ns
goals_named th ts gs ns f = record { within = names_within th ts ns f.names_fit; goals_are = f.goals_are }

record GoalsKept (th : Theory) (ts : List Tree) (ps : List Place) (c d : Checking) : Type 0 where
  knows : Knows th ts ps d
  count : d.tally.count ≡ c.tally.count

goals_keep : (th : Theory) (ts : List Tree) (ps : List Place) (c d : Checking) (b : Bool) (gs : List Goal) → Knows th ts ps c → AreSortedGoals th gs
    → TakesGoals c b gs d → GoalsKept th ts ps c d
goals_keep th ts ps c d true gs k w t = record {
  knows = record {
    table = ap (λ x. x.table) t ∙ k.table;
    places = ap (λ x. x.places) t ∙ k.places;
    sorted = k.sorted;
    set = k.set;
    goals = subst (AreSortedGoals th) (sym (ap (λ x. x.before ++ x.own) t)) k.goals;
  };
  count = ap (λ x. x.tally.count) t;
}
goals_keep th ts ps c d false gs k w t = record {
  knows = record {
    table = ap (λ x. x.table) t ∙ k.table;
    places = ap (λ x. x.places) t ∙ k.places;
    sorted = k.sorted;
    set = k.set;
    goals = subst (AreSortedGoals th) (sym (ap (λ x. x.before ++ x.own) t)) (sorted_append th (c.before ++ c.own) gs k.goals w);
  };
  count = ap (λ x. x.tally.count) t;
}

-- ---- the part that comes next

ready_with : (th : Theory) (ts : List Tree) (ps : List Place) (c : Checking) → Knows th ts ps c
    → AllByRecursion (IsWellSorted th.signature) c.table × IsSet th c.places
ready_with th ts ps c k = (subst (AllByRecursion (IsWellSorted th.signature)) (sym k.table) k.sorted, subst (IsSet th) (sym k.places) k.set)

-- certificates, where n were before, and what comes behind them
abbrev Rest : Theory → List Tree → List Place → ℕ → List Part → Type 0
Rest th ts ps n [] = Unit {0}
Rest th ts ps n (Certificate ls ∷ xs) = (n < length (due th ps)) × AreLinksFor (length ts) ls × Rest th ts ps (n + 1) xs
Rest th ts ps n (Goals gs ns ∷ xs) = (n ≡ length (due th ps)) × Later th ts 0 (Goals gs ns ∷ xs)
Rest th ts ps n (Head us gs ∷ xs) = ⊥
Rest th ts ps n (Step s ∷ xs) = ⊥

-- parts that begin with the head
abbrev Whole : Theory → List Part → Type 0
Whole th [] = Unit {0}
Whole th (Head ts ps ∷ xs) = AllByRecursion (IsWellSorted th.signature) ts × IsSet th ps × Rest th ts ps 0 xs
Whole th (Certificate ls ∷ xs) = ⊥
Whole th (Goals gs ns ∷ xs) = ⊥
Whole th (Step s ∷ xs) = ⊥

module _ (th : Theory) (ok : IsWellFormed th) (ts : List Tree) (ps : List Place) where
  later_ready : (m : ℕ) (xs : List Part) (x : Part) (ys : List Part) (c d : Checking) → Later th ts m (xs ++ x ∷ ys) → Knows th ts ps c
      → c.tally.count ≡ length (due th ps) + m → Runs (TakesPart th) xs c d → IsPartReady th d x
  later_ready m [] (Goals gs ns) ys c d f k e r = subst (λ y. IsPartReady th y (Goals gs ns)) r (record {
    sorted = (ready_with th ts ps c k).0;
    set = (ready_with th ts ps c k).1;
    part = (k.goals, goals_sorted th ts k.sorted gs ns f.0, subst (λ us. AreNamedGoals us gs ns) (sym k.table) (goals_named th ts gs ns f.0));
  })
  later_ready m [] (Step s) ys c d f k e r = subst (λ y. IsPartReady th y (Step s)) r (record {
    sorted = (ready_with th ts ps c k).0;
    set = (ready_with th ts ps c k).1;
    part = (omega (arith, e, f.0, few_due th ps ok k.set), subst (λ us. IsStepFor (length us) s) (sym k.table) f.1);
  })
  later_ready m [] (Head us gs) ys c d f k e r = absurd f
  later_ready m [] (Certificate ls) ys c d f k e r = absurd f
  later_ready m (Goals gs ns ∷ xs) x ys c d f k e r =
      let s = goals_keep th ts ps c r.0 c.stopped gs k (goals_sorted th ts k.sorted gs ns f.0) r.1 in
      later_ready m xs x ys r.0 d f.1 s.knows (s.count ∙ e) r.2
  later_ready m (Step t ∷ xs) x ys c d f k e r =
      let s = step_keeps th c r.0 c.stopped t r.1 in
      later_ready (m + 1) xs x ys r.0 d f.2 (kept_known th ts ps c r.0 1 k s) (omega (arith, s.count, e)) r.2
  later_ready m (Head us gs ∷ xs) x ys c d f k e r = absurd f
  later_ready m (Certificate ls ∷ xs) x ys c d f k e r = absurd f

  rest_ready : (n : ℕ) (xs : List Part) (x : Part) (ys : List Part) (c d : Checking) → Rest th ts ps n (xs ++ x ∷ ys) → Knows th ts ps c → c.tally.count ≡ n
      → n + length c.due ≡ length (due th ps) → Runs (TakesPart th) xs c d → IsPartReady th d x
  rest_ready n [] (Certificate ls) ys c d f k e l r = subst (λ y. IsPartReady th y (Certificate ls)) r (record {
    sorted = (ready_with th ts ps c k).0;
    set = (ready_with th ts ps c k).1;
    part = (
      omega (arith, e, f.0, few_due th ps ok k.set),
      omega (arith, f.0, l),
      subst (λ us. AreLinksFor (length us) ls) (sym k.table) f.1,
    );
  })
  rest_ready n [] (Goals gs ns) ys c d f k e l r = later_ready 0 [] (Goals gs ns) ys c d f.1 k (omega (arith, e, f.0)) r
  rest_ready n [] (Head us gs) ys c d f k e l r = absurd f
  rest_ready n [] (Step s) ys c d f k e l r = absurd f
  rest_ready n (Certificate ls ∷ xs) x ys c d f k e l r =
      let s = certificate_keeps th c r.0 c.due _ refl r.1 in
      rest_ready (n + 1) xs x ys r.0 d f.2 (kept_known th ts ps c r.0 1 k s.keeps) (omega (arith, s.keeps.count, e)) (omega (arith, s.due, l)) r.2
  rest_ready n (Goals gs ns ∷ xs) x ys c d f k e l r = later_ready 0 (Goals gs ns ∷ xs) x ys c d f.1 k (omega (arith, e, f.0)) r
  rest_ready n (Head us gs ∷ xs) x ys c d f k e l r = absurd f
  rest_ready n (Step s ∷ xs) x ys c d f k e l r = absurd f

whole_ready : (th : Theory) → IsWellFormed th → (xs : List Part) (x : Part) (ys : List Part) (c : Checking) → Whole th (xs ++ x ∷ ys) → StandFor th xs c
    → IsPartReady th c x
whole_ready th ok [] (Head ts ps) ys c f r = subst (λ y. IsPartReady th y (Head ts ps)) r (record {
  sorted = tt;
  set = record { increasing = tt; places = tt };
  part = tt;
})
whole_ready th ok [] (Certificate ls) ys c f r = absurd f
whole_ready th ok [] (Goals gs ns) ys c f r = absurd f
whole_ready th ok [] (Step s) ys c f r = absurd f
whole_ready th ok (Head ts ps ∷ xs) x ys c f r =
    let d : Checking = record nothing_taken { table = ts; places = ps; due = due th ps } in
    let k : Knows th ts ps d = record { table = refl; places = refl; sorted = f.0; set = f.1; goals = sorted_none th } in
    let P : Checking → Type 0 = λ y. Runs (TakesPart th) xs y c in
    rest_ready th ok ts ps 0 xs x ys d c f.2 k refl (omega arith) (subst P r.1 r.2)
whole_ready th ok (Certificate ls ∷ xs) x ys c f r = absurd f
whole_ready th ok (Goals gs ns ∷ xs) x ys c f r = absurd f
whole_ready th ok (Step s ∷ xs) x ys c f r = absurd f

-- ---- parts that fit behind one another

rest_fits : (th : Theory) (ts : List Tree) (ps : List Place) (n : ℕ) (xs : List Part) → FitRest th ts ps n xs → Rest th ts ps n xs
rest_fits th ts ps n [] f = tt
rest_fits th ts ps n (Certificate ls ∷ xs) f = (f.0, f.1, rest_fits th ts ps (n + 1) xs f.2)
rest_fits th ts ps n (Goals gs ns ∷ xs) f = (f.0, blocks_later th ts 0 (Goals gs ns ∷ xs) f.1)
rest_fits th ts ps n (Head us gs ∷ xs) f = absurd f
rest_fits th ts ps n (Step s ∷ xs) f = absurd f

whole_fits : (th : Theory) (xs : List Part) → Fit th xs → Whole th xs
whole_fits th [] f = tt
whole_fits th (Head ts ps ∷ xs) f = (f.0.sorted, f.0.set, rest_fits th ts ps 0 xs f.1)
whole_fits th (Certificate ls ∷ xs) f = absurd f
whole_fits th (Goals gs ns ∷ xs) f = absurd f
whole_fits th (Step s ∷ xs) f = absurd f

-- The part that fits comes next.
pub part_ready : (th : Theory) → IsWellFormed th → (xs : List Part) (x : Part) (c : Checking) → Fit th (xs ++ x ∷ []) → StandFor th xs c → IsPartReady th c x
part_ready th ok xs x c f r = whole_ready th ok xs x [] c (whole_fits th (xs ++ x ∷ []) f) r

-- ---- the parts of a proof that fits

steps_fit : (th : Theory) (ts : List Tree) (m : ℕ) (ss : List (ProofStep ℕ)) (k : List Part) → AllByRecursion (IsStepFor (length ts)) ss
    → m + length ss ≤ step_limit → Later th ts (m + length ss) k → Later th ts m (step_parts ss ++ k)
steps_fit th ts m [] k a l f = let e : m + 0 ≡ m = omega arith in let P : ℕ → Type 0 = λ n. Later th ts n k in subst P e f
steps_fit th ts m (s ∷ ss) k a l f =
    let e : m + length (s ∷ ss) ≡ m + 1 + length ss = omega arith in
    let P : ℕ → Type 0 = λ n. Later th ts n k in
    (omega (arith, l), a.0, steps_fit th ts (m + 1) ss k a.1 (omega (arith, l)) (subst P e f))

blocks_fit : (th : Theory) (ts : List Tree) (m : ℕ) (bs : List Block) → AllByRecursion (IsBlockFor th ts) bs → m + steps_in bs ≤ step_limit
    → Later th ts m (block_parts bs)
blocks_fit th ts m [] a l = tt
blocks_fit th ts m (b ∷ bs) a l = (
  record { some_goal = a.0.some_goal; names_fit = a.0.names; goals_are = a.0.goals },
  steps_fit th ts m b.steps (block_parts bs) a.0.steps (omega (arith, l)) (blocks_fit th ts (m + length b.steps) bs a.1 (omega (arith, l))),
)

-- behind the last certificate
no_more : (th : Theory) (ts : List Tree) (ps : List Place) (n : ℕ) (bs : List Block) → n ≡ length (due th ps) → Later th ts 0 (block_parts bs)
    → Rest th ts ps n (block_parts bs)
no_more th ts ps n [] e f = tt
no_more th ts ps n (b ∷ bs) e f = (e, f)

certificates_fit : (th : Theory) (ts : List Tree) (ps : List Place) (n : ℕ) (lss : List (List (LinkOf ℕ))) (bs : List Block)
    → AllByRecursion (AreLinksFor (length ts)) lss → n + length lss ≡ length (due th ps) → Later th ts 0 (block_parts bs)
    → Rest th ts ps n (certificate_parts lss ++ block_parts bs)
certificates_fit th ts ps n [] bs a e f = no_more th ts ps n bs (omega (arith, e)) f
certificates_fit th ts ps n (ls ∷ lss) bs a e f = (omega (arith, e), a.0, certificates_fit th ts ps (n + 1) lss bs a.1 (omega (arith, e)) f)

-- Its next part is what a checker needs that has taken those before it.
pub proof_ready : (th : Theory) → IsWellFormed th → (p : Proof) → ProofFor th p → (xs : List Part) (x : Part) (ys : List Part) (c : Checking)
    → parts_of p ≡ xs ++ x ∷ ys → StandFor th xs c → IsPartReady th c x
proof_ready th ok p f xs x ys c e r =
    let w : Whole th (parts_of p) = (
      f.sorted,
      f.places,
      certificates_fit th p.table p.places 0 p.certificates p.blocks f.certificates (omega (arith, f.one_each)) (blocks_fit th p.table 0 p.blocks f.blocks (omega (arith, f.few_steps))),
    ) in
    whole_ready th ok xs x ys c (subst (Whole th) e w) r
