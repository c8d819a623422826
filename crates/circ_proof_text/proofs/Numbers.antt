-- A proof with terms, and the numbers that its lines write: each is made of the other.
use Rattle.std.specs.Prelude.{◌≡◌, ◌≢◌, ℕ, ◌+◌, ◌⊎◌, ◌<◌, ◌≤◌, ◌==◌, true, false, Bool, List, [], ◌∷◌, length, map, refl}
use Rattle.std.specs.List.{AllByRecursion}
use Rattle.std.proofs.Common.{sym, ◌∙◌, ap, arith, inl, inr}
use Rattle.std.proofs.lemmas.Bool.{true≢false, eqb-true, eqb-false, eq-eqb}
use Rattle.circ_term.specs.Tree.{Tree}
use Rattle.circ_theory.specs.Theory.{Theory}
use Rattle.circ_theory.specs.WellFormed.{IsWellFormed}
use Rattle.circ_special.specs.declared.place.Place.{Place}
use Rattle.circ_proof.specs.Table.{term_limit}
use Rattle.circ_proof.specs.Rules.{ProofStep, Simplify, Reduce, Derive, Cases, Done}
use Rattle.circ_proof.specs.Certified.{due}
use Rattle.circ_proof.specs.Proof.{Block, Proof, IsPlainStep, IsPlainBlock, IsPlain, goal_at, IsStepFor, IsEnded, IsBlockFor, steps_in, step_limit, ProofFor}
use Rattle.circ_line.specs.Line.{Line, end_line}
use Rattle.circ_grammar.specs.Grammar.{NumberedStep, Simplify_step, Reduce_step, Derive_step, Cases_step, NumberedBlock, NumberedProof, lines_of, place_lines}
use Rattle.circ_grammar.specs.Grammar.{certificate_lines, block_lines, proof_lines, HasGoals, HasParts}
use Rattle.circ_grammar.specs.Machine.{numbered_table}
use Rattle.circ_proof_text.specs.TableText.{entries_of}
use Rattle.circ_proof_text.specs.Checks.{nothing}
use Rattle.circ_proof_text.specs.ProofText.{without_done, block_numbers, place_numbers, numbers_of}
use Rattle.circ_proof_text.specs.Parts.{place_with, step_with}
use Rattle.circ_proof_text.proofs.TableText.{one_table}
use Rattle.circ_proof_text.proofs.Fine.{AllFine}
use Rattle.circ_proof_text.proofs.FineBlocks.{seen, IsNumberedStepFor, IsNumberedBlockFor, IsPlainNumberedStep, IsPlainNumberedBlock, OfFirst, numbered_steps_in}
use Rattle.circ_proof_text.proofs.FineBlocks.{blocks_to, blocks_from}
use Rattle.circ_proof_text.proofs.FineFronts.{certificates_to, certificates_from, places_to, places_from, HaveTerms, table_to, table_from}

abbrev pub with_done : List NumberedStep → List (ProofStep ℕ)
with_done [] = Done ∷ []
with_done (s ∷ ss) = step_with s ∷ with_done ss

abbrev pub block_with : List Tree → NumberedBlock → Block
block_with ts b = record { goals = map (goal_at ts) b.goals; names = b.goals; steps = with_done b.steps }

-- the proof that the numbers stand for, with the terms of their table
abbrev pub proof_with : List Tree → NumberedProof → Proof
proof_with ts q = record {
  version = q.table.version;
  table = ts;
  places = map place_with q.places;
  certificates = q.certificates;
  blocks = map (block_with ts) q.blocks;
}

without-with : (ss : List NumberedStep) → without_done (with_done ss) ≡ ss
without-with [] = refl
without-with (Simplify_step c ∷ ss) = ap (λ x. Simplify_step c ∷ x) (without-with ss)
without-with (Reduce_step w ∷ ss) = ap (λ x. Reduce_step w ∷ x) (without-with ss)
without-with (Derive_step ∷ ss) = ap (λ x. Derive_step ∷ x) (without-with ss)
without-with (Cases_step t ∷ ss) = ap (λ x. Cases_step t ∷ x) (without-with ss)

pub with-without : (ss : List (ProofStep ℕ)) → IsEnded ss → with_done (without_done ss) ≡ ss
with-without [] h = absurd h
with-without (Done ∷ []) h = refl
with-without (Simplify c ∷ []) h = absurd (cc)
with-without (Reduce w ∷ []) h = absurd (cc)
with-without (Derive ∷ []) h = absurd (cc)
with-without (Cases u ∷ []) h = absurd (cc)
with-without (Done ∷ t ∷ ss) h = absurd (h.0 refl)
with-without (Simplify c ∷ t ∷ ss) h = ap (λ x. Simplify c ∷ x) (with-without (t ∷ ss) h.1)
with-without (Reduce w ∷ t ∷ ss) h = ap (λ x. Reduce w ∷ x) (with-without (t ∷ ss) h.1)
with-without (Derive ∷ t ∷ ss) h = ap (λ x. Derive ∷ x) (with-without (t ∷ ss) h.1)
with-without (Cases u ∷ t ∷ ss) h = ap (λ x. Cases u ∷ x) (with-without (t ∷ ss) h.1)

no_done : (s : NumberedStep) → step_with s ≢ Done
no_done (Simplify_step c) e = absurd (cc)
no_done (Reduce_step w) e = absurd (cc)
no_done Derive_step e = absurd (cc)
no_done (Cases_step t) e = absurd (cc)

is_ended : (ss : List NumberedStep) → IsEnded (with_done ss)
is_ended [] = refl
is_ended (s ∷ []) = (no_done s, refl)
is_ended (s ∷ t ∷ ss) = (no_done s, is_ended (t ∷ ss))

length-with : (ss : List NumberedStep) → length (with_done ss) ≡ length ss + 1
length-with [] = refl
length-with (s ∷ ss) = omega (arith, length-with ss)

steps_with : (n : ℕ) (ss : List NumberedStep) → AllByRecursion (IsNumberedStepFor n) ss → AllByRecursion (IsStepFor n) (with_done ss)
steps_with n [] h = (tt, tt)
steps_with n (Simplify_step c ∷ ss) h = (h.0, steps_with n ss h.1)
steps_with n (Reduce_step w ∷ ss) h = (h.0, steps_with n ss h.1)
steps_with n (Derive_step ∷ ss) h = (h.0, steps_with n ss h.1)
steps_with n (Cases_step t ∷ ss) h = (h.0, steps_with n ss h.1)

pub steps_without : (n : ℕ) (ss : List (ProofStep ℕ)) → AllByRecursion (IsStepFor n) ss → AllByRecursion (IsNumberedStepFor n) (without_done ss)
steps_without n [] h = tt
steps_without n (Simplify c ∷ ss) h = (h.0, steps_without n ss h.1)
steps_without n (Reduce w ∷ ss) h = (h.0, steps_without n ss h.1)
steps_without n (Derive ∷ ss) h = (h.0, steps_without n ss h.1)
steps_without n (Cases t ∷ ss) h = (h.0, steps_without n ss h.1)
steps_without n (Done ∷ ss) h = steps_without n ss h.1

-- what version 1 leaves out, said of both

plain_with : (ss : List NumberedStep) → AllByRecursion IsPlainNumberedStep ss → AllByRecursion IsPlainStep (with_done ss)
plain_with [] h = (tt, tt)
plain_with (Simplify_step c ∷ ss) h = (h.0, plain_with ss h.1)
plain_with (Reduce_step w ∷ ss) h = (h.0, plain_with ss h.1)
plain_with (Derive_step ∷ ss) h = (h.0, plain_with ss h.1)
plain_with (Cases_step t ∷ ss) h = absurd h.0

plain_without : (ss : List (ProofStep ℕ)) → AllByRecursion IsPlainStep ss → AllByRecursion IsPlainNumberedStep (without_done ss)
plain_without [] h = tt
plain_without (Simplify c ∷ ss) h = (h.0, plain_without ss h.1)
plain_without (Reduce w ∷ ss) h = (h.0, plain_without ss h.1)
plain_without (Derive ∷ ss) h = (h.0, plain_without ss h.1)
plain_without (Cases t ∷ ss) h = absurd h.0
plain_without (Done ∷ ss) h = plain_without ss h.1

plain_blocks_with : (ts : List Tree) (bs : List NumberedBlock) → AllByRecursion IsPlainNumberedBlock bs → AllByRecursion IsPlainBlock (map (block_with ts) bs)
plain_blocks_with ts [] h = tt
plain_blocks_with ts (b ∷ bs) h = (record { names = h.0.names; steps = plain_with b.steps h.0.steps }, plain_blocks_with ts bs h.1)

plain_blocks_without : (bs : List Block) → AllByRecursion IsPlainBlock bs → AllByRecursion IsPlainNumberedBlock (map block_numbers bs)
plain_blocks_without [] h = tt
plain_blocks_without (b ∷ bs) h = (record { names = h.0.names; steps = plain_without b.steps h.0.steps }, plain_blocks_without bs h.1)

-- The version is 1 or 2, and what has to hold in version 1 holds where it is not 2.
version_to : (v : ℕ) (p : Proof) → 1 ≤ v → v ≤ 2 → p.version ≡ v → OfFirst v (IsPlain p) → ((p.version ≡ 1) × IsPlain p) ⊎ (p.version ≡ 2)
version_to v p l m e f = go (v == 2) refl
  where
    go : (b : Bool) → (v == 2) ≡ b → ((p.version ≡ 1) × IsPlain p) ⊎ (p.version ≡ 2)
    go true z = inr (e ∙ eqb-true v 2 z)
    go false z = let other : v ≡ 2 → ⊥ = eqb-false v 2 z in inl (omega (arith, e, other), f z)

version_from : (p : Proof) → ((p.version ≡ 1) × IsPlain p) ⊎ (p.version ≡ 2) → OfFirst p.version (IsPlain p)
version_from p (inl h) e = h.1
version_from p (inr h) e = absurd (true≢false (sym (eq-eqb p.version 2 h) ∙ e))

version_in_range : (p : Proof) → ((p.version ≡ 1) × IsPlain p) ⊎ (p.version ≡ 2) → (1 ≤ p.version) × (p.version ≤ 2)
version_in_range p (inl h) = (omega (arith, h.0), omega (arith, h.0))
version_in_range p (inr h) = (omega (arith, h), omega (arith, h))

-- a list that is not empty, said in two ways

pub not_empty : {X : Type 0} (xs : List X) → 0 < length xs → xs ≢ []
not_empty [] h e = absurd (omega arith)
not_empty (x ∷ xs) h e = absurd (cc)

has_item : {X : Type 0} (xs : List X) → xs ≢ [] → 0 < length xs
has_item [] h = absurd (h refl)
has_item (x ∷ xs) h = omega arith

length-of : {X Y : Type 0} (f : X → Y) (xs : List X) → length (map f xs) ≡ length xs
length-of f [] = refl
length-of f (x ∷ xs) = omega (arith, length-of f xs)

-- blocks

blocks_fit : (th : Theory) (ts : List Tree) (bs : List NumberedBlock) → AllByRecursion HasGoals bs → AllByRecursion (IsNumberedBlockFor th ts) bs
    → AllByRecursion (IsBlockFor th ts) (map (block_with ts) bs)
blocks_fit th ts [] g h = tt
blocks_fit th ts (b ∷ bs) g h = (
  record {
    some_goal = not_empty b.goals g.0;
    names = h.0.names;
    goals = refl;
    steps = steps_with (length ts) b.steps h.0.steps;
    ended = is_ended b.steps;
  },
  blocks_fit th ts bs g.1 h.1,
)

count_with : (ts : List Tree) (bs : List NumberedBlock) → steps_in (map (block_with ts) bs) ≡ numbered_steps_in bs
count_with ts [] = refl
count_with ts (b ∷ bs) = omega (arith, length-with b.steps, count_with ts bs)

blocks_numbers : (ts : List Tree) (bs : List NumberedBlock) → map block_numbers (map (block_with ts) bs) ≡ bs
blocks_numbers ts [] = refl
blocks_numbers ts (b ∷ bs) =
    ap (λ x. record { goals = b.goals; steps = x } ∷ map block_numbers (map (block_with ts) bs)) (without-with b.steps)
    ∙ ap (λ x. b ∷ x) (blocks_numbers ts bs)

places_numbers : (ps : List (ℕ × ℕ)) → map place_numbers (map place_with ps) ≡ ps
places_numbers [] = refl
places_numbers (p ∷ ps) = ap (λ x. p ∷ x) (places_numbers ps)

pub places_again : (gs : List Place) → map place_with (map place_numbers gs) ≡ gs
places_again [] = refl
places_again (g ∷ gs) = ap (λ x. g ∷ x) (places_again gs)

-- The numbers of the proof that numbers stand for are these.
numbers_with : (ts : List Tree) (q : NumberedProof) → entries_of [] ts ≡ q.table.lines → numbers_of (proof_with ts q) ≡ q
numbers_with ts q e =
    ap (λ x. record {
      table = numbered_table q.table.version x;
      places = map place_numbers (map place_with q.places);
      certificates = q.certificates;
      blocks = map block_numbers (map (block_with ts) q.blocks);
    }) e
    ∙ ap (λ x. record { table = q.table; places = x; certificates = q.certificates; blocks = map block_numbers (map (block_with ts) q.blocks) })
    (places_numbers q.places)
    ∙ ap (λ x. record { table = q.table; places = q.places; certificates = q.certificates; blocks = x }) (blocks_numbers ts q.blocks)

-- the lines after the table
abbrev after_table : NumberedProof → List Line
after_table q = lines_of place_lines q.places (lines_of certificate_lines q.certificates (lines_of block_lines q.blocks (end_line ∷ [])))

abbrev after_places : NumberedProof → List Line
after_places q = lines_of certificate_lines q.certificates (lines_of block_lines q.blocks (end_line ∷ []))

-- Lines of the grammar that are fine are those of a proof that fits.
pub fine_fits : (th : Theory) (q : NumberedProof) → HasParts q → AllFine th nothing (proof_lines q)
    → (p : Proof) × ProofFor th p × (numbers_of p ≡ q)
fine_fits th q parts h =
    let v : ℕ = q.table.version in
    let e : (us : List Tree) × HaveTerms th [] q.table.lines us × AllFine th (seen v us [] 0 0) (after_table q)
    = table_to th v [] q.table.lines (after_table q) tt (omega arith) h.3 in
    let ts : List Tree = e.0 in
    let g = places_to th v ts [] q.places (after_places q) tt e.2 in
    let gs : List Place = map place_with q.places in
    let c = certificates_to th v ts gs 0 q.certificates (lines_of block_lines q.blocks (end_line ∷ [])) (omega arith) g.1 in
    let b = blocks_to th v ts gs (0 + length q.certificates) 0 q.blocks (end_line ∷ []) (omega arith) c.3 in
    let all : 0 + length q.certificates ≡ length (due th gs) = b.0 parts.0 in
    let few : 0 + numbered_steps_in q.blocks ≤ step_limit = b.3 in
    let short : 0 + length ts ≤ term_limit = e.1.few in
    let fits : ProofFor th (proof_with ts q) = record {
      version = version_to v (proof_with ts q) h.0.0 h.0.1 refl
          (λ z. record { certificates = c.1 z; blocks = plain_blocks_with ts q.blocks (b.2 z) });
      sorted = e.1.sorted;
      within = e.1.within;
      entries = e.1.entries;
      short_table = omega (arith, short);
      places = record { increasing = g.0.increasing; places = g.0.places };
      one_each = omega (arith, all);
      certificates = c.0;
      some_block = not_empty (map (block_with ts) q.blocks) (omega (arith, parts.0, length-of (block_with ts) q.blocks));
      blocks = blocks_fit th ts q.blocks parts.1 b.1;
      few_steps = omega (arith, few, count_with ts q.blocks);
    } in
    (proof_with ts q, fits, numbers_with ts q e.1.lines)

pub blocks_numbered : (th : Theory) (ts : List Tree) (bs : List Block) → AllByRecursion (IsBlockFor th ts) bs
    → AllByRecursion HasGoals (map block_numbers bs) × AllByRecursion (IsNumberedBlockFor th ts) (map block_numbers bs)
blocks_numbered th ts [] h = (tt, tt)
blocks_numbered th ts (b ∷ bs) h =
    let r = blocks_numbered th ts bs h.1 in
    ((has_item b.names h.0.some_goal, r.0), (record { names = h.0.names; steps = steps_without (length ts) b.steps h.0.steps }, r.1))

count_without : (th : Theory) (ts : List Tree) (bs : List Block) → AllByRecursion (IsBlockFor th ts) bs → numbered_steps_in (map block_numbers bs) ≡ steps_in bs
count_without th ts [] h = refl
count_without th ts (b ∷ bs) h =
    let e : length b.steps ≡ length (without_done b.steps) + 1
    = ap length (sym (with-without b.steps h.0.ended)) ∙ length-with (without_done b.steps) in
    omega (arith, e, count_without th ts bs h.1)

-- The lines of a proof that fits follow the grammar, and are fine.
pub fits_fine : (th : Theory) (p : Proof) → IsWellFormed th → ProofFor th p → HasParts (numbers_of p) × AllFine th nothing (proof_lines (numbers_of p))
fits_fine th p w f =
    let v : ℕ = p.version in
    let ts : List Tree = p.table in
    let short : length ts ≤ term_limit = f.short_table in
    let r = blocks_numbered th ts p.blocks f.blocks in
    let q : NumberedProof = numbers_of p in
    let few : 0 + numbered_steps_in q.blocks ≤ step_limit = omega (arith, f.few_steps, count_without th ts p.blocks f.blocks) in
    let all : 0 + length p.certificates ≡ length (due th p.places) = omega (arith, f.one_each) in
    let plain : OfFirst v (IsPlain p) = version_from p f.version in
    let b = blocks_from th v ts p.places (0 + length p.certificates) 0 q.blocks short all r.1 (λ e. plain_blocks_without p.blocks (plain e).blocks) few in
    let c = certificates_from th v ts p.places 0 p.certificates (lines_of block_lines q.blocks (end_line ∷ [])) short f.certificates
    (λ e. (plain e).certificates) (omega (arith, all)) b in
    let g = places_from th v ts [] p.places (after_places q) w f.places.increasing f.places.places c in
    let e = table_from th v [] ts (after_table q) w f.entries f.sorted f.within (omega (arith, short)) g in (
      (omega (arith, has_item p.blocks f.some_block, length-of block_numbers p.blocks), r.0),
      (version_in_range p f.version, refl, refl, e),
    )

-- A proof that fits is determined by its numbers.

blocks_again : (th : Theory) (ts : List Tree) (bs : List Block) → AllByRecursion (IsBlockFor th ts) bs → map (block_with ts) (map block_numbers bs) ≡ bs
blocks_again th ts [] h = refl
blocks_again th ts (b ∷ bs) h =
    ap (λ x. x ∷ map (block_with ts) (map block_numbers bs)) (again b h.0) ∙ ap (λ xs. b ∷ xs) (blocks_again th ts bs h.1)
  where
    again : (b : Block) → IsBlockFor th ts b → block_with ts (block_numbers b) ≡ b
    again b f =
        ap (λ x. record { goals = x; names = b.names; steps = with_done (without_done b.steps) }) (sym f.goals)
        ∙ ap (λ x. record { goals = b.goals; names = b.names; steps = x }) (with-without b.steps f.ended)

again : (th : Theory) (p : Proof) → ProofFor th p → proof_with p.table (numbers_of p) ≡ p
again th p f =
    ap (λ x. record { version = p.version; table = p.table; places = x; certificates = p.certificates; blocks = map (block_with p.table) (map block_numbers p.blocks) })
    (places_again p.places)
    ∙ ap (λ x. record { version = p.version; table = p.table; places = p.places; certificates = p.certificates; blocks = x }) (blocks_again th p.table p.blocks f.blocks)

pub one_proof : (th : Theory) (p q : Proof) → ProofFor th p → ProofFor th q → numbers_of p ≡ numbers_of q → p ≡ q
one_proof th p q f g e =
    let same : p.table ≡ q.table = one_table th.signature [] p.table q.table f.entries g.entries f.sorted g.sorted (ap (λ x. x.table.lines) e) in
    sym (again th p f) ∙ ap (λ x. proof_with x (numbers_of p)) same ∙ ap (proof_with q.table) e ∙ again th q g
