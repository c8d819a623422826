-- A proof is accepted or fails first at one number, and not both.
use Rattle.std.proofs.Common.{◌≡◌, ◌+◌, ℕ, List, [], ◌∷◌, ◌++◌, length, map, inl, inr, refl, ap, sym, subst, ◌∙◌}
use Rattle.std.specs.List.{AllByRecursion}
use Rattle.std.proofs.lemmas.List.{length-map}
use Rattle.circ_theory.specs.Theory.{Theory}
use Rattle.circ_theory.specs.Rewriting.{named}
use Rattle.circ_theory.specs.Goal.{Goal}
use Rattle.circ_proof.specs.Plain.{map_link}
use Rattle.circ_proof.specs.Runs.{Runs, FailsFirst}
use Rattle.circ_proof.proofs.Leading.{one_run}
use Rattle.circ_proof.specs.Rules.{State, state, StepOf, StepsOf}
use Rattle.circ_proof.specs.Certified.{due}
use Rattle.circ_proof.specs.Proof.{Block, Proof, IsBlockFor, ProofFor}
use Rattle.circ_proof.specs.Accepted.{certificates_of, steps_of, BlocksDerive, Derives, Accepted, BlockFails, FirstFail}
use Rattle.circ_proof.proofs.Running.{LeadsToOne, runs_or_fails}
use Rattle.circ_proof.proofs.Certifying.{certified_or_fails, certificate_fails_once, certified_unless_fails}
use Rattle.circ_proof.proofs.Stepping.{step_one}
use Rattle.circ_soundness.proofs.Ending.{ended}

-- ---- steps

-- one step alone is the first that fails
fails_once : {X S : Type 0} (Leads : X → S → S → Type 0) → LeadsToOne Leads → (xs : List X) (a : S) (n m : ℕ) → FailsFirst Leads xs a n
    → FailsFirst Leads xs a m → n ≡ m
fails_once Leads one [] a n m f g = absurd f
fails_once Leads one (x ∷ xs) a n m (inl f) (inl g) = f.0 ∙ sym g.0
fails_once Leads one (x ∷ xs) a n m (inl f) (inr g) = absurd (f.1 g.0 g.1)
fails_once Leads one (x ∷ xs) a n m (inr f) (inl g) = absurd (g.1 f.0 f.1)
fails_once {S = S} Leads one (x ∷ xs) a n m (inr f) (inr g) =
    let e : f.0 ≡ g.0 = one x a f.0 g.0 f.1 g.1 in
    let P : S → Type 0 = λ b. FailsFirst Leads xs b f.2 in
    f.3 ∙ ap (λ k. k + 1) (fails_once Leads one xs g.0 f.2 g.2 (subst P e f.4) g.4) ∙ sym g.3

-- steps of which none is the first that fails cannot but run
runs_unless_fails : {X S : Type 0} (Leads : X → S → S → Type 0) (xs : List X) (a : S) → ((n : ℕ) → FailsFirst Leads xs a n → ⊥)
    → ((b : S) → Runs Leads xs a b → ⊥) → ⊥
runs_unless_fails Leads [] a f r = r a refl
runs_unless_fails Leads (x ∷ xs) a f r =
    f 1 (inl (refl, λ b l. runs_unless_fails Leads xs b (λ n g. f (n + 1) (inr (b, l, n, refl, g))) (λ c s. r c (b, l, s))))

-- ---- blocks

derived_or_fails : (th : Theory) (p : Proof) (H : List Goal) (bs : List Block) (dss : List (List Goal)) (n : ℕ) → BlocksDerive th p H bs dss
    → BlockFails th p H bs n → ⊥
derived_or_fails th p H [] dss n r f = f
derived_or_fails th p H (b ∷ bs) [] n r f = r
derived_or_fails th p H (b ∷ bs) (ds ∷ dss) n r (inl f) =
    runs_or_fails (StepOf th p.places) (step_one th p.places) (steps_of p.table b) (state H b.goals) (state (H ++ ds) []) n r.0 f
derived_or_fails th p H (b ∷ bs) (ds ∷ dss) n r (inr f) = derived_or_fails th p (H ++ b.goals) bs dss f.2 r.1 f.4

blocks_fail_once : (th : Theory) (p : Proof) (H : List Goal) (bs : List Block) (n m : ℕ) → BlockFails th p H bs n → BlockFails th p H bs m → n ≡ m
blocks_fail_once th p H [] n m f g = absurd f
blocks_fail_once th p H (b ∷ bs) n m (inl f) (inl g) =
    fails_once (StepOf th p.places) (step_one th p.places) (steps_of p.table b) (state H b.goals) n m f g
blocks_fail_once th p H (b ∷ bs) n m (inl f) (inr g) =
    absurd (runs_or_fails (StepOf th p.places) (step_one th p.places) (steps_of p.table b) (state H b.goals) g.0 n g.1 f)
blocks_fail_once th p H (b ∷ bs) n m (inr f) (inl g) =
    absurd (runs_or_fails (StepOf th p.places) (step_one th p.places) (steps_of p.table b) (state H b.goals) f.0 m f.1 g)
blocks_fail_once th p H (b ∷ bs) n m (inr f) (inr g) =
    f.3 ∙ ap (λ k. length b.steps + k) (blocks_fail_once th p (H ++ b.goals) bs f.2 g.2 f.4 g.4) ∙ sym g.3

derived_unless_fails : (th : Theory) (p : Proof) (H : List Goal) (bs : List Block) → AllByRecursion (IsBlockFor th p.table) bs
    → ((n : ℕ) → BlockFails th p H bs n → ⊥) → ((dss : List (List Goal)) → BlocksDerive th p H bs dss → ⊥) → ⊥
derived_unless_fails th p H [] a f r = r [] tt
derived_unless_fails th p H (b ∷ bs) a f r =
    runs_unless_fails (StepOf th p.places) (steps_of p.table b) (state H b.goals) (λ n g. f n (inl g)) (λ e run.
    let end = ended th p.places (named p.table) b.steps (state H b.goals) e a.0.ended run in
    let P : State → Type 0 = StepsOf th p.places (steps_of p.table b) (state H b.goals) in
    derived_unless_fails th p (H ++ b.goals) bs a.1 (λ n g. f (length b.steps + n) (inr (e, run, n, refl, g)))
    (λ dss d. r (end.0 ∷ dss) (subst P end.1 run, d)))

front_off : (H ds es : List Goal) → H ++ ds ≡ H ++ es → ds ≡ es
front_off [] ds es e = e
front_off (h ∷ H) ds es e = front_off H ds es (cc)

-- the blocks derive one list each
derived_once : (th : Theory) (p : Proof) (H : List Goal) (bs : List Block) (dss ess : List (List Goal)) → BlocksDerive th p H bs dss
    → BlocksDerive th p H bs ess → dss ≡ ess
derived_once th p H [] [] [] r s = refl
derived_once th p H [] [] (es ∷ ess) r s = absurd s
derived_once th p H [] (ds ∷ dss) ess r s = absurd r
derived_once th p H (b ∷ bs) [] ess r s = absurd r
derived_once th p H (b ∷ bs) (ds ∷ dss) [] r s = absurd s
derived_once th p H (b ∷ bs) (ds ∷ dss) (es ∷ ess) r s =
    let end = one_run (StepOf th p.places) (step_one th p.places) (steps_of p.table b) (state H b.goals) (state (H ++ ds) []) (state (H ++ es) []) r.0 s.0 in
    let first : ds ≡ es = front_off H ds es (ap (λ x. x.hypotheses) end) in
    ap (λ x. x ∷ dss) first ∙ ap (λ xs. es ∷ xs) (derived_once th p (H ++ b.goals) bs dss ess r.1 s.1)

-- ---- the whole proof

pub one_relation : (th : Theory) (p : Proof) (dss ess : List (List Goal)) → Derives th p dss → Derives th p ess → dss ≡ ess
one_relation th p dss ess d e = derived_once th p [] p.blocks dss ess d.blocks e.blocks

pub not_both : (th : Theory) (p : Proof) (n : ℕ) → Accepted th p → FirstFail th p n → ⊥
not_both th p n a (inl f) = certified_or_fails th p.places (due th p.places) (certificates_of p) n a.1.admissible f
not_both th p n a (inr f) = derived_or_fails th p [] p.blocks a.0 f.1 a.1.blocks f.3

pub one_failure : (th : Theory) (p : Proof) (n m : ℕ) → FirstFail th p n → FirstFail th p m → n ≡ m
one_failure th p n m (inl f) (inl g) = certificate_fails_once th p.places (due th p.places) (certificates_of p) n m f g
one_failure th p n m (inl f) (inr g) = absurd (certified_or_fails th p.places (due th p.places) (certificates_of p) n g.0 f)
one_failure th p n m (inr f) (inl g) = absurd (certified_or_fails th p.places (due th p.places) (certificates_of p) m f.0 g)
one_failure th p n m (inr f) (inr g) = f.2 ∙ ap (λ k. length p.certificates + k) (blocks_fail_once th p [] p.blocks f.1 g.1 f.3 g.3) ∙ sym g.2

-- a proof that fails nowhere cannot but be accepted
pub nothing_left_out : (th : Theory) (p : Proof) → ProofFor th p → ((n : ℕ) → FirstFail th p n → ⊥) → (Accepted th p → ⊥) → ⊥
nothing_left_out th p for f r =
    certified_unless_fails th p.places (due th p.places) (certificates_of p)
    (length-map p.certificates (map (map_link (named p.table))) ∙ for.one_each) (λ n g. f n (inl g)) (λ a.
    derived_unless_fails th p [] p.blocks for.blocks (λ n g. f (length p.certificates + n) (inr (a, n, refl, g)))
    (λ dss d. r (dss, record { admissible = a; blocks = d })))
