-- Proofs for a command that leaves conditions out.
use Rattle.std.specs.Prelude.{◌≡◌, ◌||◌, ℕ, List, length, nat_lt, Bool, true, false, codes, Option, Some, None, if◌then◌else◌}
use Rattle.std.specs.List.{list_any}
use Rattle.circ_outer.specs.Shelf.{ShelfState}
use Rattle.circ_theory.specs.Theory.{Theory}
use Rattle.circ_proof.specs.Plain.{LinkOf, ChainsOf, ChainOf, WhyOf, WhysOf, no_chain, more_chains, chains_in, Same_why, Split_why, no_why, more_whys}
use Rattle.circ_proof.specs.Proof.{GoalNames, Block, Proof}
use Rattle.circ_proof.specs.Rules.{ProofStep, Simplify, Reduce, Cases}
use Rattle.circ_proof_text.specs.ProofText.{ReadsAsProof}
use Rattle.circ_read.specs.declared.cause.Cause.{Cause}
use Rattle.circ_read.specs.declared.cause.Cause.TheVariants as cause
use Rattle.circ_files.specs.Files.{Held, Holds, IsFileFault}
use Rattle.circ_files.specs.ProofFile.{TakesProof, ProofRefusal}
use Rattle.circ_status.specs.declared.status.Status.{Status}

-- ---- which lines of conditions a proof has

-- a goal with a condition
abbrev pub has_given : GoalNames → Bool
has_given n = nat_lt 0 (length n.conds)

abbrev pub some_chain : ChainsOf ℕ → Bool
some_chain no_chain = false
some_chain (more_chains l r cs) = true

-- a link with a condition
abbrev pub has_if : LinkOf ℕ → Bool
has_if l = some_chain (chains_in l)

abbrev pub chain_has_if : ChainOf ℕ → Bool
chain_has_if c = list_any has_if c.left || list_any has_if c.right

abbrev mutual
  pub why_has_if : WhyOf ℕ → Bool
  why_has_if (Same_why chain) = chain_has_if chain
  why_has_if (Split_why chain term whys) = chain_has_if chain || whys_have_if whys

  pub whys_have_if : WhysOf ℕ → Bool
  whys_have_if no_why = false
  whys_have_if (more_whys w ws) = why_has_if w || whys_have_if ws

abbrev pub step_has_if : ProofStep ℕ → Bool
step_has_if (Simplify chain) = chain_has_if chain
step_has_if (Reduce why) = why_has_if why
step_has_if _ = false

abbrev pub is_cases : ProofStep ℕ → Bool
is_cases (Cases term) = true
is_cases _ = false

abbrev pub some_given : List Block → Bool
some_given bs = list_any (λ b. list_any has_given b.names) bs

abbrev pub some_if : List Block → Bool
some_if bs = list_any (λ b. list_any step_has_if b.steps) bs

abbrev pub some_cases : List Block → Bool
some_cases bs = list_any (λ b. list_any is_cases b.steps) bs

-- the first word of `given`, `if` and `cases` that begins a line of the proof
abbrev pub left_out : Proof → Option (List ℕ)
left_out p =
    if some_given p.blocks then Some (codes "given")
    else if list_any (λ ls. list_any has_if ls) p.certificates || some_if p.blocks then Some (codes "if")
    else if some_cases p.blocks then Some (codes "cases")
    else None

-- ---- files

-- The bytes read as p, which has none of these lines.
pub record ReadsAsPlainProof (th : Theory) (bytes : List ℕ) (p : Proof) : Type 0 where
  pub reads : ReadsAsProof th bytes p
  pub plain : left_out p ≡ None

-- The named file reads as p, which has none.
abbrev pub ReadsPlainProof : Held → (name : List ℕ) → Theory → Proof → Type 0
ReadsPlainProof held name th p = Holds held name (λ bytes. ReadsAsPlainProof th bytes p)

-- As `TakesProof`, of a proof that has none.
pub record TakesPlainProof (name : List ℕ) (th : Theory) (p : Proof) (before : ShelfState) : Type 0 where
  pub takes : TakesProof name th p before
  pub plain : left_out p ≡ None

-- Bytes are refused as `ProofRefusal` says; or they read as a proof that has such a line, whose word is left out.
pub data PlainProofRefusal (th : Theory) : (place : ℕ) → Cause → (bytes : List ℕ) → Type 0 where
  no_proof : (place : ℕ) (c : Cause) (bytes : List ℕ) → ProofRefusal th place c bytes → PlainProofRefusal th place c bytes
  has_condition : (bytes : List ℕ) (p : Proof) (word : List ℕ) → ReadsAsProof th bytes p → left_out p ≡ Some word
      → PlainProofRefusal th 0 (cause.LeftOut word) bytes

-- The named file, which is file 2, gives no such proof.
abbrev pub IsPlainProofFault : (name : List ℕ) → Theory → (before after : ShelfState) → Status → Type 0
IsPlainProofFault name th = IsFileFault 2 name (PlainProofRefusal th)
