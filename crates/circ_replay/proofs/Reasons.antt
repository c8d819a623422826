-- When a goal holds by a recorded reason.
use Rattle.std.proofs.Common.{◌≡◌, ◌↔◌, ◌<◌, ◌≤◌, ◌+◌, max, IsTrue, ℕ, Bool, List, [], ◌∷◌, length, drop, get_or, zero, suc}
use Rattle.std.proofs.Common.{Some, None, Result, Ok, Err, IfOk, refl, ap, sym, subst, ◌∙◌, arith}
use Rattle.std.proofs.lemmas.List.{drop_more}
use Rattle.circ_term.specs.Tree.{Tree, sort_of}
use Rattle.circ_term.proofs.Within.{drop_read}
use Rattle.circ_theory.specs.Theory.{Pair, pair_with, CaseList}
use Rattle.circ_theory.specs.Derivable.{is_case}
use Rattle.circ_theory.specs.Observing.{cases_of, case_list}
use Rattle.circ_theory.specs.Rewriting.{named}
use Rattle.circ_theory.specs.WellFormed.{IsWellFormed}
use Rattle.circ_proof.specs.declared.links.Why.{Why}
use Rattle.circ_proof.specs.Plain.{ChainOf, WhyOf, WhysOf, Same_why, Split_why, no_why, more_whys, map_whys, plain_why, plain_whys}
use Rattle.circ_proof.specs.Link.{Setting, assuming, Leads, resolved_why}
use Rattle.circ_proof.specs.Justified.{Justified, EachJustified, ChainLeads, AllOfWhy, AllOfWhys}
use Rattle.circ_proof.proofs.Leading.{one_chain}
use Rattle.circ_proof.proofs.Cases.{cases_listed, listed_cases, no_cases}

pub if_tells : {E : Type 0} (r : Result Bool E) (P Q : Bool → Type 0) → IfOk r P → ((b : Bool) → P b → Q b) → IfOk r Q
if_tells (Ok b) P Q h f = f b h
if_tells (Err e) P Q h f = tt

-- ---- the same term on both sides

pub same_tells : (c : Setting) (chain : ChainOf Tree) (p q : Pair) (b : Bool) → ChainLeads (Leads c) chain p q
    → IsTrue b ↔ (q.left ≡ q.right) → IsTrue b ↔ Justified c p (Same_why chain)
same_tells c chain p q b leads tells = (
  (λ h. (q.right, let P : Tree → Type 0 = λ t. ChainLeads (Leads c) chain p (pair_with t q.right) in subst P (tells.0 h) leads)),
  (λ r. let e = one_chain c chain p q (pair_with r.0 r.0) leads r.1 in tells.1 (ap (λ x. x.left) e ∙ ap (λ x. x.right) (sym e))),
)

-- ---- splits

-- a term of a sort without a case list is split by nothing
pub unlisted_split : (c : Setting) (p : Pair) (chain : ChainOf Tree) (u : Tree) (ws : WhysOf Tree) → cases_of c.theory (sort_of u) ≡ None
    → Justified c p (Split_why chain u ws) → ⊥
unlisted_split c p chain u ws e r = no_cases c.theory (sort_of u) e r.2 r.3 r.4

-- nor is a goal where the chain leads nowhere
pub stuck_split : (c : Setting) (p : Pair) (chain : ChainOf Tree) (u : Tree) (ws : WhysOf Tree) → ((q : Pair) → ChainLeads (Leads c) chain p q → ⊥)
    → Justified c p (Split_why chain u ws) → ⊥
stuck_split c p chain u ws h r = h r.0 r.1

pub split_tells : (c : Setting) → IsWellFormed c.theory → (p : Pair) (chain : ChainOf Tree) (u : Tree) (ks : List ℕ) (ws : WhysOf Tree) (q : Pair) (b : Bool)
    → cases_of c.theory (sort_of u) ≡ Some ks → ChainLeads (Leads c) chain p q
    → IsTrue b ↔ EachJustified c q u (case_list (sort_of u) ks) ks ws → IsTrue b ↔ Justified c p (Split_why chain u ws)
split_tells c ok p chain u ks ws q b e leads tells = (
  (λ h. (q, leads, case_list (sort_of u) ks, cases_listed c.theory (sort_of u) ks e, refl, tells.0 h)),
  (λ r.
      let P : Pair → Type 0 = λ x. EachJustified c x u (case_list (sort_of u) ks) ks ws in
      let Q : CaseList → Type 0 = λ l. EachJustified c r.0 u l l.constants ws in
      tells.1 (subst P (one_chain c chain p r.0 q r.1 leads) (subst Q (listed_cases c.theory ok (sort_of u) ks e r.2 r.3 r.4) r.5))),
)

-- ---- one case after another

-- there are as many reasons as constants
pub each_counted : (c : Setting) (q : Pair) (u : Tree) (l : CaseList) (ks : List ℕ) (f : ℕ → Tree) (ws : List (Why ℕ))
    → EachJustified c q u l ks (map_whys f (plain_whys ws)) → length ks ≡ length ws
each_counted c q u l [] f [] r = refl
each_counted c q u l [] f (w ∷ ws) r = absurd r
each_counted c q u l (k ∷ ks) f [] r = absurd r
each_counted c q u l (k ∷ ks) f (w ∷ ws) r = ap suc (each_counted c q u l ks f ws r.1)

-- each case from one on has its reason
abbrev pub EachFrom : Setting → Pair → (term : Tree) → (constants : List ℕ) → (table : List Tree) → List (Why ℕ) → ℕ → Type 0
EachFrom c q u ks table ws i = EachJustified c q u (case_list (sort_of u) ks) (drop i ks) (map_whys (named table) (plain_whys (drop i ws)))

-- those from one case on are that case's and those from the next one on
pub each_parts : (c : Setting) (q : Pair) (u : Tree) (ks : List ℕ) (table : List Tree) (ws : List (Why ℕ)) (i : ℕ) (w : Why ℕ) → i < length ks → i < length ws → w ≡ get_or ws i w
    → EachFrom c q u ks table ws i
    ↔ (Justified (assuming c (is_case u (case_list (sort_of u) ks) (get_or ks i 0))) q (resolved_why table (plain_why w)) × EachFrom c q u ks table ws (i + 1))
each_parts c q u ks table ws i w more within read =
    let l = case_list (sort_of u) ks in
    let P : List ℕ → Type 0 = λ xs. EachJustified c q u l xs (map_whys (named table) (plain_whys (drop i ws))) in
    let Q : List (Why ℕ) → Type 0 = λ ys. EachJustified c q u l (get_or ks i 0 ∷ drop (i + 1) ks) (map_whys (named table) (plain_whys ys)) in
    let e = drop_more ks i 0 more in
    let f = drop_read ws i w within read in
    (λ h. subst Q f (subst P e h), λ h. subst P (sym e) (subst Q (sym f) h))

-- a property of the terms of all reasons is one of each
pub each_why : (P : ℕ → Type 0) (ws : List (Why ℕ)) (i : ℕ) (w : Why ℕ) → AllOfWhys P (plain_whys ws) → i < length ws → w ≡ get_or ws i w
    → AllOfWhy P (plain_why w)
each_why P [] i w a h e = absurd (omega arith)
each_why P (x ∷ ws) zero w a h e = let Q : Why ℕ → Type 0 = λ y. AllOfWhy P (plain_why y) in subst Q (sym e) a.0
each_why P (x ∷ ws) (suc i) w a h e = each_why P ws i w a.1 (omega arith) e

-- ---- how deep reasons lie in one another

abbrev mutual
  pub why_depth : WhyOf ℕ → ℕ
  why_depth (Same_why chain) = 0
  why_depth (Split_why chain term whys) = whys_depth whys + 1

  pub whys_depth : WhysOf ℕ → ℕ
  whys_depth no_why = 0
  whys_depth (more_whys w ws) = max (why_depth w) (whys_depth ws)

pub depth_at : (ws : List (Why ℕ)) (i : ℕ) (w : Why ℕ) → i < length ws → w ≡ get_or ws i w → why_depth (plain_why w) ≤ whys_depth (plain_whys ws)
depth_at [] i w h e = absurd (omega arith)
depth_at (x ∷ ws) zero w h e = let d = ap (λ y. why_depth (plain_why y)) e in omega arith
depth_at (x ∷ ws) (suc i) w h e = let d = depth_at ws i w (omega arith) e in omega arith
