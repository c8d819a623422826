-- The parts of a proof are those that its lines show, with the terms of its table, and they give the proof back.
use Rattle.std.specs.Prelude.{◌≡◌, ℕ, List, [], ◌∷◌, ◌++◌, map, refl}
use Rattle.std.specs.List.{AllByRecursion}
use Rattle.std.proofs.Common.{sym, ◌∙◌, ap, append_assoc, append-nil}
use Rattle.std.proofs.lemmas.List.{map-append}
use Rattle.circ_term.specs.Tree.{Tree}
use Rattle.circ_theory.specs.Theory.{Theory}
use Rattle.circ_proof.specs.Plain.{LinkOf}
use Rattle.circ_proof.specs.Rules.{ProofStep, Simplify, Reduce, Derive, Cases, Done}
use Rattle.circ_proof.specs.Proof.{Block, Proof, goal_at, IsEnded, IsBlockFor, ProofFor}
use Rattle.circ_grammar.specs.Parts.{Head_part, Certificate_part, Goals_part, Step_part, Done_part}
use Rattle.circ_grammar.specs.Parts as grammar
use Rattle.circ_grammar.specs.Now.{with_table}
use Rattle.circ_proof_text.specs.ProofText.{without_done, block_numbers, place_numbers, numbers_of}
use Rattle.circ_proof_text.specs.Parts.{Part, Head, Certificate, Goals, Step, certificate_parts, step_parts, block_parts, parts_of, place_with, part_with}
use Rattle.circ_proof_text.specs.Parts.{Gathered, gathered, nothing_gathered, gather, gather_all}
use Rattle.circ_proof_text.proofs.Numbers.{places_again}

steps_with : (ts : List Tree) (ss : List (ProofStep ℕ)) → IsEnded ss
    → map (part_with ts) (grammar.step_parts (without_done ss) ++ Done_part ∷ []) ≡ step_parts ss
steps_with ts [] h = absurd h
steps_with ts (Done ∷ []) h = refl
steps_with ts (Simplify c ∷ []) h = absurd (cc)
steps_with ts (Reduce w ∷ []) h = absurd (cc)
steps_with ts (Derive ∷ []) h = absurd (cc)
steps_with ts (Cases u ∷ []) h = absurd (cc)
steps_with ts (Done ∷ s ∷ ss) h = absurd (h.0 refl)
steps_with ts (Simplify c ∷ s ∷ ss) h = ap (λ x. Step (Simplify c) ∷ x) (steps_with ts (s ∷ ss) h.1)
steps_with ts (Reduce w ∷ s ∷ ss) h = ap (λ x. Step (Reduce w) ∷ x) (steps_with ts (s ∷ ss) h.1)
steps_with ts (Derive ∷ s ∷ ss) h = ap (λ x. Step Derive ∷ x) (steps_with ts (s ∷ ss) h.1)
steps_with ts (Cases u ∷ s ∷ ss) h = ap (λ x. Step (Cases u) ∷ x) (steps_with ts (s ∷ ss) h.1)

blocks_with : (th : Theory) (ts : List Tree) (bs : List Block) → AllByRecursion (IsBlockFor th ts) bs
    → map (part_with ts) (grammar.blocks_parts (map block_numbers bs)) ≡ block_parts bs
blocks_with th ts [] h = refl
blocks_with th ts (b ∷ bs) h =
    map-append (part_with ts) (grammar.block_parts (block_numbers b)) (grammar.blocks_parts (map block_numbers bs))
    ∙ ap (λ x. (Goals (map (goal_at ts) b.names) b.names ∷ map (part_with ts) (grammar.step_parts (without_done b.steps) ++ Done_part ∷ [])) ++ x)
    (blocks_with th ts bs h.1)
    ∙ ap (λ x. Goals (map (goal_at ts) b.names) b.names ∷ x ++ block_parts bs) (steps_with ts b.steps h.0.ended)
    ∙ ap (λ x. Goals x b.names ∷ step_parts b.steps ++ block_parts bs) (sym h.0.goals)

certificates_with : (ts : List Tree) (cs : List (List (LinkOf ℕ))) → map (part_with ts) (grammar.certificate_parts cs) ≡ certificate_parts cs
certificates_with ts [] = refl
certificates_with ts (c ∷ cs) = ap (λ x. Certificate c ∷ x) (certificates_with ts cs)

-- The parts of a proof are those of its numbers, with the terms of its table.
pub parts_are : (th : Theory) (p : Proof) → ProofFor th p → map (part_with p.table) (grammar.parts_of (numbers_of p)) ≡ parts_of p
parts_are th p f =
    ap (λ x. Head p.table (map place_with (map place_numbers p.places)) ∷ x)
    (map-append (part_with p.table) (grammar.certificate_parts p.certificates) (grammar.blocks_parts (map block_numbers p.blocks))
    ∙ ap (λ x. x ++ map (part_with p.table) (grammar.blocks_parts (map block_numbers p.blocks))) (certificates_with p.table p.certificates)
    ∙ ap (λ x. certificate_parts p.certificates ++ x) (blocks_with th p.table p.blocks f.blocks))
    ∙ ap (λ x. Head p.table x ∷ certificate_parts p.certificates ++ block_parts p.blocks) (places_again p.places)

-- What stands for the table in a part does not matter.
pub any_table : {U : Type 0} (ts : List Tree) (u : U) (xs : List grammar.NumberedPart) → map (part_with ts) (map (with_table u) xs) ≡ map (part_with ts) xs
any_table ts u [] = refl
any_table ts u (x ∷ xs) = ap (λ y. y ∷ map (part_with ts) (map (with_table u) xs)) (one x) ∙ ap (λ ys. part_with ts x ∷ ys) (any_table ts u xs)
  where
    one : (x : grammar.NumberedPart) → part_with ts (with_table u x) ≡ part_with ts x
    one (Head_part es ps) = refl
    one (Certificate_part ls) = refl
    one (Goals_part ns) = refl
    one (Step_part s) = refl
    one Done_part = refl

-- gathering

certificates_gathered : (g : Gathered) (cs : List (List (LinkOf ℕ))) (k : List Part)
    → gather_all g (certificate_parts cs ++ k) ≡ gather_all (record g { certificates = g.certificates ++ cs }) k
certificates_gathered g [] k = ap (λ x. gather_all (record g { certificates = x }) k) (sym (append-nil g.certificates))
certificates_gathered g (c ∷ cs) k =
    certificates_gathered (record g { certificates = g.certificates ++ c ∷ [] }) cs k
    ∙ ap (λ x. gather_all (record g { certificates = x }) k) (append_assoc g.certificates (c ∷ []) cs)

abbrev with_block : Gathered → List (ProofStep ℕ) → Gathered
with_block g ss = record g { blocks = g.blocks ++ record { goals = g.goals; names = g.names; steps = ss } ∷ []; goals = []; names = []; steps = [] }

steps_gathered : (g : Gathered) (ss : List (ProofStep ℕ)) (k : List Part) → IsEnded ss
    → gather_all g (step_parts ss ++ k) ≡ gather_all (with_block g (g.steps ++ ss)) k
steps_gathered g [] k h = absurd h
steps_gathered g (Done ∷ []) k h = refl
steps_gathered g (Simplify c ∷ []) k h = absurd (cc)
steps_gathered g (Reduce w ∷ []) k h = absurd (cc)
steps_gathered g (Derive ∷ []) k h = absurd (cc)
steps_gathered g (Cases u ∷ []) k h = absurd (cc)
steps_gathered g (Done ∷ s ∷ ss) k h = absurd (h.0 refl)
steps_gathered g (Simplify c ∷ s ∷ ss) k h =
    steps_gathered (record g { steps = g.steps ++ Simplify c ∷ [] }) (s ∷ ss) k h.1
    ∙ ap (λ x. gather_all (with_block g x) k) (append_assoc g.steps (Simplify c ∷ []) (s ∷ ss))
steps_gathered g (Reduce w ∷ s ∷ ss) k h =
    steps_gathered (record g { steps = g.steps ++ Reduce w ∷ [] }) (s ∷ ss) k h.1
    ∙ ap (λ x. gather_all (with_block g x) k) (append_assoc g.steps (Reduce w ∷ []) (s ∷ ss))
steps_gathered g (Derive ∷ s ∷ ss) k h =
    steps_gathered (record g { steps = g.steps ++ Derive ∷ [] }) (s ∷ ss) k h.1
    ∙ ap (λ x. gather_all (with_block g x) k) (append_assoc g.steps (Derive ∷ []) (s ∷ ss))
steps_gathered g (Cases u ∷ s ∷ ss) k h =
    steps_gathered (record g { steps = g.steps ++ Cases u ∷ [] }) (s ∷ ss) k h.1
    ∙ ap (λ x. gather_all (with_block g x) k) (append_assoc g.steps (Cases u ∷ []) (s ∷ ss))

abbrev closed_with : Gathered → List Block → Gathered
closed_with g bs = record g { blocks = g.blocks ++ bs; goals = []; names = []; steps = [] }

blocks_gathered : (th : Theory) (ts : List Tree) (g : Gathered) (bs : List Block) → AllByRecursion (IsBlockFor th ts) bs → g.goals ≡ [] → g.names ≡ [] → g.steps ≡ []
    → gather_all g (block_parts bs) ≡ closed_with g bs
blocks_gathered th ts g [] h a b c =
    ap (λ x. record g { blocks = x }) (sym (append-nil g.blocks)) ∙ ap (λ x. record g { blocks = g.blocks ++ []; goals = x }) a
    ∙ ap (λ x. record g { blocks = g.blocks ++ []; goals = []; names = x }) b
    ∙ ap (λ x. record g { blocks = g.blocks ++ []; goals = []; names = []; steps = x }) c
blocks_gathered th ts g (b ∷ bs) h x y z =
    steps_gathered (record g { goals = b.goals; names = b.names; steps = [] }) b.steps (block_parts bs) h.0.ended
    ∙ blocks_gathered th ts (record g { blocks = g.blocks ++ b ∷ []; goals = []; names = []; steps = [] }) bs h.1 refl refl refl
    ∙ ap (λ k. record g { blocks = k; goals = []; names = []; steps = [] }) (append_assoc g.blocks (b ∷ []) bs)

-- The parts of a proof give it back.
pub parts_gathered : (th : Theory) (p : Proof) → ProofFor th p → gather_all nothing_gathered (parts_of p) ≡ gathered p
parts_gathered th p f =
    certificates_gathered (gather nothing_gathered (Head p.table p.places)) p.certificates (block_parts p.blocks)
    ∙ blocks_gathered th p.table
    (record { table = p.table; places = p.places; certificates = p.certificates; blocks = []; goals = []; names = []; steps = [] })
    p.blocks f.blocks refl refl refl

-- one part more is gathered
pub gather_all-push : (g : Gathered) (xs : List Part) (x : Part) → gather_all g (xs ++ x ∷ []) ≡ gather (gather_all g xs) x
gather_all-push g [] x = refl
gather_all-push g (y ∷ xs) x = gather_all-push (gather g y) xs x
