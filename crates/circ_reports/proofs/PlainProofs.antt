-- Proofs for a command that leaves conditions out: they are plain, and files read as them in one way.
use Rattle.std.proofs.Common.{◌≡◌, ◌||◌, ℕ, List, [], ◌∷◌, length, nat_lt, Bool, true, false, refl, sym, ◌∙◌, subst, arith, Option, Some, None, if◌then◌else◌}
use Rattle.std.proofs.lemmas.Bool.{ltb-false}
use Rattle.std.specs.List.{list_any, AllByRecursion}
use Rattle.circ_outer.specs.Shelf.{ShelfState}
use Rattle.circ_theory.specs.Theory.{Theory}
use Rattle.circ_files.specs.Files.{IsOnly}
use Rattle.circ_proof.specs.declared.links.Chain.{Chain}
use Rattle.circ_proof.specs.Plain.{plain_chains, LinkOf, ChainsOf, ChainOf, WhyOf, WhysOf, no_chain, more_chains, chains_in, Same_why, Split_why, no_why, more_whys}
use Rattle.circ_proof.specs.Proof.{GoalNames, Block, Proof, IsPlainLink, IsPlainChain, IsPlainWhy, ArePlainWhys, IsPlainStep, IsPlainBlock, IsPlain}
use Rattle.circ_proof.specs.Rules.{ProofStep, Simplify, Reduce, Derive, Cases, Done}
use Rattle.circ_reports.specs.PlainProof.{has_given, some_chain, has_if, chain_has_if, why_has_if, whys_have_if, step_has_if, is_cases}
use Rattle.circ_reports.specs.PlainProof.{some_given, some_if, some_cases, left_out, ReadsPlainProof, TakesPlainProof}

-- ---- what is not left out is plain

either_false : (a b : Bool) → (a || b) ≡ false → (a ≡ false) × (b ≡ false)
either_false true b e = absurd (cc)
either_false false b e = (refl, e)

none_has : {X : Type 0} (f : X → Bool) (P : X → Type 0) → ((x : X) → f x ≡ false → P x) → (xs : List X) → list_any f xs ≡ false → AllByRecursion P xs
none_has f P h [] e = tt
none_has f P h (x ∷ xs) e = let b = either_false (f x) (list_any f xs) e in (h x b.0, none_has f P h xs b.1)

no_pair : (cs : List (ℕ × ℕ)) → nat_lt 0 (length cs) ≡ false → cs ≡ []
no_pair [] e = refl
no_pair (c ∷ cs) e = absurd (let l = ltb-false 0 (length (c ∷ cs)) e in omega (arith, l))

no_chains : (cs : ChainsOf ℕ) → some_chain cs ≡ false → cs ≡ no_chain
no_chains no_chain e = refl
no_chains (more_chains l r cs) e = absurd (cc)

plain_link : (l : LinkOf ℕ) → has_if l ≡ false → IsPlainLink l
plain_link l e = no_chains (chains_in l) e

plain_links : (ls : List (LinkOf ℕ)) → list_any has_if ls ≡ false → AllByRecursion IsPlainLink ls
plain_links ls e = none_has has_if IsPlainLink plain_link ls e

plain_chain : (c : ChainOf ℕ) → chain_has_if c ≡ false → IsPlainChain c
plain_chain c e = let b = either_false (list_any has_if c.left) (list_any has_if c.right) e in (plain_links c.left b.0, plain_links c.right b.1)

mutual
  plain_why : (w : WhyOf ℕ) → why_has_if w ≡ false → IsPlainWhy w
  plain_why (Same_why chain) e = plain_chain chain e
  plain_why (Split_why chain term ws) e = let b = either_false (chain_has_if chain) (whys_have_if ws) e in (plain_chain chain b.0, plain_whys ws b.1)

  plain_whys : (ws : WhysOf ℕ) → whys_have_if ws ≡ false → ArePlainWhys ws
  plain_whys no_why e = tt
  plain_whys (more_whys w ws) e = let b = either_false (why_has_if w) (whys_have_if ws) e in (plain_why w b.0, plain_whys ws b.1)

plain_step : (s : ProofStep ℕ) → step_has_if s ≡ false → is_cases s ≡ false → IsPlainStep s
plain_step (Simplify chain) e f = plain_chain chain e
plain_step (Reduce why) e f = plain_why why e
plain_step Derive e f = tt
plain_step (Cases term) e f = absurd (cc)
plain_step Done e f = tt

plain_steps : (ss : List (ProofStep ℕ)) → list_any step_has_if ss ≡ false → list_any is_cases ss ≡ false → AllByRecursion IsPlainStep ss
plain_steps [] e f = tt
plain_steps (s ∷ ss) e f =
    let a = either_false (step_has_if s) (list_any step_has_if ss) e in
    let b = either_false (is_cases s) (list_any is_cases ss) f in
    (plain_step s a.0 b.0, plain_steps ss a.1 b.1)

plain_blocks : (bs : List Block) → some_given bs ≡ false → some_if bs ≡ false → some_cases bs ≡ false → AllByRecursion IsPlainBlock bs
plain_blocks [] e f g = tt
plain_blocks (b ∷ bs) e f g =
    let a = either_false (list_any has_given b.names) (some_given bs) e in
    let i = either_false (list_any step_has_if b.steps) (some_if bs) f in
    let c = either_false (list_any is_cases b.steps) (some_cases bs) g in (
      record { names = none_has has_given (λ n. n.conds ≡ []) (λ n x. no_pair n.conds x) b.names a.0; steps = plain_steps b.steps i.0 c.0 },
      plain_blocks bs a.1 i.1 c.1,
    )

pub nothing_left_out : (p : Proof) → left_out p ≡ None → IsPlain p
nothing_left_out p e = go (some_given p.blocks) refl (list_any (λ ls. list_any has_if ls) p.certificates || some_if p.blocks) refl (some_cases p.blocks) refl e
  where
    go : (a : Bool) → some_given p.blocks ≡ a → (b : Bool) → (list_any (λ ls. list_any has_if ls) p.certificates || some_if p.blocks) ≡ b
        → (c : Bool) → some_cases p.blocks ≡ c → left_out p ≡ None → IsPlain p
    go true i b j c k e = absurd (let f = rw i at e in cc)
    go false i true j c k e = absurd (let f = rw (i, j) at e in cc)
    go false i false j true k e = absurd (let f = rw (i, j, k) at e in cc)
    go false i false j false k e =
        let d = either_false (list_any (λ ls. list_any has_if ls) p.certificates) (some_if p.blocks) j in record {
          certificates = none_has (λ ls. list_any has_if ls) (λ ls. AllByRecursion IsPlainLink ls) plain_links p.certificates d.0;
          blocks = plain_blocks p.blocks i d.1 k;
        }

-- the chains of a link, by how many there are
pub chains_told : (cs : List (Chain ℕ)) → some_chain (plain_chains cs) ≡ nat_lt 0 (length cs)
chains_told [] = refl
chains_told (c ∷ cs) = go (nat_lt 0 (length (c ∷ cs))) refl
  where
    go : (b : Bool) → nat_lt 0 (length (c ∷ cs)) ≡ b → true ≡ nat_lt 0 (length (c ∷ cs))
    go true e = sym e
    go false e = absurd (let l = ltb-false 0 (length (c ∷ cs)) e in omega (arith, l))

-- nothing is left out, or a word is
pub plain_or_word : {A : Type 0} (p : Proof) → (left_out p ≡ None → A) → ((word : List ℕ) → left_out p ≡ Some word → A) → A
plain_or_word {A} p none some = go (left_out p) refl
  where
    go : (o : Option (List ℕ)) → left_out p ≡ o → A
    go None e = none e
    go (Some word) e = some word e

-- ---- files

-- what is taken so is what the file reads as
pub plain_reads : (name : List ℕ) (th : Theory) (p : Proof) (before : ShelfState) → TakesPlainProof name th p before → before.tells ≡ true
    → IsOnly p (ReadsPlainProof before.holds name th)
plain_reads name th p before a t =
    let r = a.takes.reads t in
    let h = r.0 in (
      record { bytes = h.bytes; bytes_are = h.bytes_are; short = h.short; are = record { reads = h.are; plain = a.plain } },
      λ q x. r.1 q (record { bytes = x.bytes; bytes_are = x.bytes_are; short = x.short; are = x.are.reads }),
    )
