-- Parts that fit and end with a Done are those of a proof that fits, and the parts of a proof that fits end so.
use Rattle.std.specs.Prelude.{◌≡◌, ◌≢◌, ℕ, ◌⊎◌, ◌+◌, ◌≤◌, List, [], ◌∷◌, ◌++◌, length, refl}
use Rattle.std.specs.List.{AllByRecursion}
use Rattle.std.proofs.Common.{sym, ◌∙◌, ap, subst, arith, append_assoc, append-nil}
use Rattle.circ_term.specs.Tree.{Tree}
use Rattle.circ_theory.specs.Theory.{Theory}
use Rattle.circ_special.specs.declared.place.Place.{Place}
use Rattle.circ_proof.specs.Plain.{LinkOf}
use Rattle.circ_proof.specs.Rules.{ProofStep, Simplify, Reduce, Derive, Cases, Done}
use Rattle.circ_proof.specs.Certified.{due}
use Rattle.circ_proof.specs.Proof.{Block, Proof, IsPlain, AreLinksFor, IsStepFor, IsEnded, IsBlockFor, steps_in, step_limit, ProofFor}
use Rattle.circ_proof.specs.Fitting.{FitSteps, FitBlocks, FitRest, Fit}
use Rattle.circ_proof_text.specs.Parts.{Part, Head, Certificate, Goals, Step, certificate_parts, step_parts, block_parts, parts_of}

-- the last of such a part and these
abbrev EndsDone : Part → List Part → Type 0
EndsDone x [] = x ≡ Step Done
EndsDone x (y ∷ ys) = EndsDone y ys

ends_done : (x : Part) (xs : List Part) → EndsDone x (xs ++ Step Done ∷ [])
ends_done x [] = refl
ends_done x (y ∷ ys) = ends_done y ys

more_steps : (s : ProofStep ℕ) (ss : List (ProofStep ℕ)) → s ≢ Done → IsEnded ss → IsEnded (s ∷ ss)
more_steps s [] n h = absurd h
more_steps s (t ∷ ss) n h = (n, h)

-- what the steps of a block come to, and the blocks after it
record StepsBack (th : Theory) (ts : List Tree) (m : ℕ) (ss : List (ProofStep ℕ)) (bs : List Block) : Type 0 where
  pub steps : AllByRecursion (IsStepFor (length ts)) ss
  pub ended : IsEnded ss
  pub few : m + length ss ≤ step_limit
  pub blocks : FitBlocks th ts (m + length ss) (block_parts bs)
  pub last : EndsDone (Step Done) (block_parts bs)

one_more : (th : Theory) (ts : List Tree) (m : ℕ) (s : ProofStep ℕ) (ss : List (ProofStep ℕ)) (bs : List Block) → s ≢ Done → IsStepFor (length ts) s
    → StepsBack th ts (m + 1) ss bs → StepsBack th ts m (s ∷ ss) bs
one_more th ts m s ss bs n h r =
    let e : m + 1 + length ss ≡ m + length (s ∷ ss) = omega arith in
    let few : m + 1 + length ss ≤ step_limit = r.few in
    let P : ℕ → Type 0 = λ x. FitBlocks th ts x (block_parts bs) in
    record { steps = (h, r.steps); ended = more_steps s ss n r.ended; few = omega (arith, few); blocks = subst P e r.blocks; last = r.last }

steps_back : (th : Theory) (ts : List Tree) (m : ℕ) (x : Part) (ss : List (ProofStep ℕ)) (bs : List Block) → x ≢ Step Done
    → FitSteps th ts m (step_parts ss ++ block_parts bs) → EndsDone x (step_parts ss ++ block_parts bs) → StepsBack th ts m ss bs
steps_back th ts m x [] [] n f d = absurd (n d)
steps_back th ts m x [] (b ∷ bs) n f d = absurd f
steps_back th ts m x (Done ∷ []) bs n f d =
    record { steps = (tt, tt); ended = refl; few = omega (arith, f.0); blocks = f.1; last = d }
steps_back th ts m x (Done ∷ s ∷ ss) bs n f d = absurd f.1
steps_back th ts m x (Simplify c ∷ ss) bs n f d =
    one_more th ts m (Simplify c) ss bs (λ e. absurd (cc)) f.1 (steps_back th ts (m + 1) (Step (Simplify c)) ss bs (λ e. absurd (cc)) f.2 d)
steps_back th ts m x (Reduce w ∷ ss) bs n f d =
    one_more th ts m (Reduce w) ss bs (λ e. absurd (cc)) f.1 (steps_back th ts (m + 1) (Step (Reduce w)) ss bs (λ e. absurd (cc)) f.2 d)
steps_back th ts m x (Derive ∷ ss) bs n f d =
    one_more th ts m Derive ss bs (λ e. absurd (cc)) f.1 (steps_back th ts (m + 1) (Step Derive) ss bs (λ e. absurd (cc)) f.2 d)
steps_back th ts m x (Cases u ∷ ss) bs n f d =
    one_more th ts m (Cases u) ss bs (λ e. absurd (cc)) f.1 (steps_back th ts (m + 1) (Step (Cases u)) ss bs (λ e. absurd (cc)) f.2 d)

blocks_back : (th : Theory) (ts : List Tree) (m : ℕ) (bs : List Block) → m ≤ step_limit → FitBlocks th ts m (block_parts bs) → EndsDone (Step Done) (block_parts bs)
    → AllByRecursion (IsBlockFor th ts) bs × (m + steps_in bs ≤ step_limit)
blocks_back th ts m [] l f d = (tt, omega (arith, l))
blocks_back th ts m (b ∷ bs) l f d =
    let s : StepsBack th ts m b.steps bs = steps_back th ts m (Goals b.goals b.names) b.steps bs (λ e. absurd (cc)) f.1 d in
    let r = blocks_back th ts (m + length b.steps) bs s.few s.blocks s.last in
    let few : m + length b.steps + steps_in bs ≤ step_limit = r.1 in (
      (record { some_goal = f.0.some_goal; names = f.0.names_fit; goals = f.0.goals_are; steps = s.steps; ended = s.ended }, r.0),
      omega (arith, few),
    )

-- what the parts after the head come to
record RestBack (th : Theory) (ts : List Tree) (gs : List Place) (n : ℕ) (cs : List (List (LinkOf ℕ))) (bs : List Block) : Type 0 where
  pub certificates : AllByRecursion (AreLinksFor (length ts)) cs
  pub one_each : n + length cs ≡ length (due th gs)
  pub some_block : bs ≢ []
  pub blocks : FitBlocks th ts 0 (block_parts bs)
  pub last : EndsDone (Step Done) (block_parts bs)

rest_back : (th : Theory) (ts : List Tree) (gs : List Place) (n : ℕ) (x : Part) (cs : List (List (LinkOf ℕ))) (bs : List Block) → x ≢ Step Done
    → FitRest th ts gs n (certificate_parts cs ++ block_parts bs) → EndsDone x (certificate_parts cs ++ block_parts bs) → RestBack th ts gs n cs bs
rest_back th ts gs n x [] [] other f d = absurd (other d)
rest_back th ts gs n x [] (b ∷ bs) other f d =
    let e : n ≡ length (due th gs) = f.0 in
    record { certificates = tt; one_each = omega (arith, e); some_block = λ z. absurd (cc); blocks = f.1; last = d }
rest_back th ts gs n x (c ∷ cs) bs other f d =
    let r : RestBack th ts gs (n + 1) cs bs = rest_back th ts gs (n + 1) (Certificate c) cs bs (λ e. absurd (cc)) f.2 d in
    let e : n + 1 + length cs ≡ length (due th gs) = r.one_each in
    record { certificates = (f.1, r.certificates); one_each = omega (arith, e); some_block = r.some_block; blocks = r.blocks; last = r.last }

pub whole_fits : (th : Theory) (p : Proof) (xs : List Part) → ((p.version ≡ 1) × IsPlain p) ⊎ (p.version ≡ 2) → Fit th (parts_of p)
    → parts_of p ≡ xs ++ Step Done ∷ [] → ProofFor th p
whole_fits th p xs v f e =
    let P : List Part → Type 0 = EndsDone (Step Done) in
    let d : EndsDone (Step Done) (parts_of p) = subst P (sym e) (ends_done (Step Done) xs) in
    let r : RestBack th p.table p.places 0 p.certificates p.blocks
    = rest_back th p.table p.places 0 (Head p.table p.places) p.certificates p.blocks (λ e. absurd (cc)) f.1 d in
    let b = blocks_back th p.table 0 p.blocks (omega arith) r.blocks r.last in
    let one : 0 + length p.certificates ≡ length (due th p.places) = r.one_each in
    let few : 0 + steps_in p.blocks ≤ step_limit = b.1 in
    record {
      version = v;
      sorted = f.0.sorted;
      within = f.0.within;
      entries = f.0.entries;
      short_table = f.0.short_table;
      places = f.0.set;
      one_each = omega (arith, one);
      certificates = r.certificates;
      some_block = r.some_block;
      blocks = b.0;
      few_steps = omega (arith, few);
    }

-- a list of parts that ends with a Done
abbrev pub EndsSo : List Part → Type 0
EndsSo xs = (ys : List Part) × (xs ≡ ys ++ Step Done ∷ [])

so_after : (xs ys : List Part) → EndsSo ys → EndsSo (xs ++ ys)
so_after xs ys (zs, e) = (xs ++ zs, ap (λ y. xs ++ y) e ∙ sym (append_assoc xs zs (Step Done ∷ [])))

steps_end : (ss : List (ProofStep ℕ)) → IsEnded ss → EndsSo (step_parts ss)
steps_end [] h = absurd h
steps_end (s ∷ []) h = ([], ap (λ x. Step x ∷ []) h)
steps_end (s ∷ t ∷ ss) h = so_after (Step s ∷ []) (step_parts (t ∷ ss)) (steps_end (t ∷ ss) h.1)

blocks_end : (th : Theory) (ts : List Tree) (b : Block) (bs : List Block) → AllByRecursion (IsBlockFor th ts) (b ∷ bs) → EndsSo (block_parts (b ∷ bs))
blocks_end th ts b [] h =
    let s : EndsSo (step_parts b.steps) = steps_end b.steps h.0.ended in
    let P : List Part → Type 0 = λ x. EndsSo (Goals b.goals b.names ∷ x) in
    subst P (sym (append-nil (step_parts b.steps))) (so_after (Goals b.goals b.names ∷ []) (step_parts b.steps) s)
blocks_end th ts b (c ∷ bs) h = so_after (Goals b.goals b.names ∷ step_parts b.steps) (block_parts (c ∷ bs)) (blocks_end th ts c bs h.1)

pub ends_so : (th : Theory) (p : Proof) → ProofFor th p → EndsSo (parts_of p)
ends_so th p f = so_after (Head p.table p.places ∷ certificate_parts p.certificates) (block_parts p.blocks) (go p.blocks f.some_block f.blocks)
  where
    go : (bs : List Block) → bs ≢ [] → AllByRecursion (IsBlockFor th p.table) bs → EndsSo (block_parts bs)
    go [] n h = absurd (n refl)
    go (b ∷ bs) n h = blocks_end th p.table b bs h
