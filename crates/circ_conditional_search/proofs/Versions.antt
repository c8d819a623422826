-- A proof that is stored with version 1 has no condition and no Cases.
use Rattle.std.proofs.Common.{◌≡◌, ◌⊎◌, inl, inr, ℕ, suc, Bool, true, false, ◌&&◌, if◌then◌else◌, List, [], ◌∷◌, map, length, refl, arith}
use Rattle.std.specs.Prelude.{nat_lt}
use Rattle.std.specs.List.{AllByRecursion, list_all}
use Rattle.std.proofs.lemmas.Bool.{and_parts}
use Rattle.circ_term.specs.Tree.{Tree}
use Rattle.circ_theory.specs.Theory.{Pair}
use Rattle.circ_special.specs.declared.place.Place.{Place}
use Rattle.circ_proof.specs.Table.{number_in}
use Rattle.circ_proof.specs.Plain.{LinkOf, Equation_link, Hypothesis_link, Assumption_link, Content_link, no_chain, more_chains, ChainOf, WhyOf, WhysOf, Same_why, Split_why, no_why, more_whys, map_link, map_chain, map_why, map_whys}
use Rattle.circ_proof.specs.Rules.{ProofStep, Simplify, Reduce, Derive, Cases, Done, map_step}
use Rattle.circ_proof.specs.Proof.{IsPlainLink, IsPlainChain, IsPlainWhy, ArePlainWhys, IsPlainStep, IsPlainBlock, IsPlain}
use Rattle.circ_plain_search.specs.Search.{ProvedBlock}
use Rattle.circ_plain_search.specs.Numbering.{pair_name, goal_name, numbered_links, numbered_block, table_for}
use Rattle.circ_conditional_search.specs.Versions.{is_plain_link, is_plain_chain, is_plain_why, are_plain_whys, is_plain_step, has_no_conds, is_plain_block, versioned_proof}

-- what holds of each that passes a test
each_all : {X Y : Type 0} (p : X → Bool) (P : Y → Type 0) (f : X → Y) → ((x : X) → p x ≡ true → P (f x)) → (xs : List X) → list_all p xs ≡ true
    → AllByRecursion P (map f xs)
each_all p P f h [] e = tt
each_all p P f h (x ∷ xs) e = let b = and_parts (p x) (list_all p xs) e in (h x b.0, each_all p P f h xs b.1)

module _ (f : Tree → ℕ) where
  link_plain : (l : LinkOf Tree) → is_plain_link l ≡ true → IsPlainLink (map_link f l)
  link_plain (Equation_link n w q ts no_chain) e = refl
  link_plain (Equation_link n w q ts (more_chains l r cs)) e = absurd (cc)
  link_plain (Hypothesis_link n w q ts no_chain) e = refl
  link_plain (Hypothesis_link n w q ts (more_chains l r cs)) e = absurd (cc)
  link_plain (Assumption_link n w q) e = refl
  link_plain (Content_link g q t) e = refl

  links_plain : (ls : List (LinkOf Tree)) → list_all is_plain_link ls ≡ true → AllByRecursion IsPlainLink (map (map_link f) ls)
  links_plain ls e = each_all is_plain_link IsPlainLink (map_link f) link_plain ls e

  chain_plain : (c : ChainOf Tree) → is_plain_chain c ≡ true → IsPlainChain (map_chain f c)
  chain_plain c e =
      let b = and_parts (list_all is_plain_link c.left) (list_all is_plain_link c.right) e in (links_plain c.left b.0, links_plain c.right b.1)

  mutual
    why_plain : (w : WhyOf Tree) → is_plain_why w ≡ true → IsPlainWhy (map_why f w)
    why_plain (Same_why c) e = chain_plain c e
    why_plain (Split_why c u ws) e = let b = and_parts (is_plain_chain c) (are_plain_whys ws) e in (chain_plain c b.0, whys_plain ws b.1)

    whys_plain : (ws : WhysOf Tree) → are_plain_whys ws ≡ true → ArePlainWhys (map_whys f ws)
    whys_plain no_why e = tt
    whys_plain (more_whys w ws) e = let b = and_parts (is_plain_why w) (are_plain_whys ws) e in (why_plain w b.0, whys_plain ws b.1)

  step_plain : (s : ProofStep Tree) → is_plain_step s ≡ true → IsPlainStep (map_step f s)
  step_plain (Simplify c) e = chain_plain c e
  step_plain (Reduce w) e = why_plain w e
  step_plain Derive e = tt
  step_plain (Cases u) e = absurd (cc)
  step_plain Done e = tt

module _ (table : List Tree) where
  none_named : (ps : List Pair) → nat_lt (length ps) 1 ≡ true → map (pair_name table) ps ≡ []
  none_named [] e = refl
  none_named (p ∷ ps) e = absurd (some (length ps) e)
    where
      some : (n : ℕ) → nat_lt (suc n) 1 ≡ true → ⊥
      some n z = grind arith

  block_plain : (b : ProvedBlock) → is_plain_block b ≡ true → IsPlainBlock (numbered_block table b)
  block_plain b e =
      let x = and_parts (list_all has_no_conds b.goals) (list_all is_plain_step b.steps) e in
      record {
        names = each_all has_no_conds (λ n. n.conds ≡ []) (goal_name table) (λ g h. none_named g.conds h) b.goals x.0;
        steps = each_all is_plain_step IsPlainStep (map_step (number_in table)) (step_plain (number_in table)) b.steps x.1;
      }

abbrev version_by : Bool → ℕ
version_by b = if b then 1 else 2

pub fits_version : (G : List Place) (cs : List (List (LinkOf Tree))) (bs : List ProvedBlock)
    → (((versioned_proof G cs bs).version ≡ 1) × IsPlain (versioned_proof G cs bs)) ⊎ ((versioned_proof G cs bs).version ≡ 2)
fits_version G cs bs = go (list_all is_plain_block bs && list_all (list_all is_plain_link) cs) refl
  where
    go : (b : Bool) → (list_all is_plain_block bs && list_all (list_all is_plain_link) cs) ≡ b
        → ((version_by b ≡ 1) × IsPlain (versioned_proof G cs bs)) ⊎ (version_by b ≡ 2)
    go true e =
        let x = and_parts (list_all is_plain_block bs) (list_all (list_all is_plain_link) cs) e in
        inl (
          refl,
          record {
            certificates = each_all (list_all is_plain_link) (λ ls. AllByRecursion IsPlainLink ls) (numbered_links (table_for cs bs))
                (λ ls h. links_plain (number_in (table_for cs bs)) ls h) cs x.1;
            blocks = each_all is_plain_block IsPlainBlock (numbered_block (table_for cs bs)) (block_plain (table_for cs bs)) bs x.0;
          },
        )
    go false e = inr refl
