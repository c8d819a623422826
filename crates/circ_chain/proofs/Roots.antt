-- What comes at the root of a term whose arguments are settled.
use Rattle.std.proofs.Common.{◌≡◌, ℕ, ◌+◌, ◌≤◌, ◌<◌, ◌⊎◌, zero, List, [], ◌∷◌, ◌++◌, length, Option, Some, None, refl, arith}
use Rattle.circ_term.specs.Tree.{Tree, Var, App, size_of, depth_of}
use Rattle.circ_term.specs.Limits.{Limit, first_limit, IsWithinLimits}
use Rattle.circ_rewrite.specs.Replacement.{Replacement, Traced, placed, traced}
use Rattle.circ_rewrite.specs.Norm.{first_due}
use Rattle.circ_rewrite.specs.Standing.{IsSettled, HasSettledBelow}
use Rattle.circ_rewrite.proofs.Standings.{due_term, settled_term}
use Rattle.circ_chain.specs.Chain.{IsStep, Chain, Reduces, Next, RunsOut, Breaks, Outgrows}
use Rattle.circ_chain.specs.Through.{Readies}
use Rattle.circ_chain.proofs.Chains.{chain_on, chain_weaken}

module _ (due : Tree → Option Replacement) where
  -- what is due there is due first
  pub root_first : (u : Tree) (d : Replacement) → HasSettledBelow due u → due u ≡ Some d → first_due due u ≡ Some (placed [] d)
  root_first (Var n s) d h e = rw e refl
  root_first (App f s us) d h e = due_term due f s us d h e

  pub root_settled : (u : Tree) → HasSettledBelow due u → due u ≡ None → IsSettled due u
  root_settled (Var n s) h e = rw e refl
  root_settled (App f s us) h e = settled_term due f s us h e

  pub root_step : (big deep : ℕ) (u : Tree) (d : Replacement) → HasSettledBelow due u → due u ≡ Some d → size_of d.new ≤ big → depth_of d.new ≤ deep
      → IsStep due big deep u (traced (placed [] d)) d.new
  root_step big deep u d h e small shallow = record {
    replacement = d;
    is_first = record { first = root_first u d h e; made = refl };
    is_trace = refl;
    small = small;
    shallow = shallow;
  }

  pub readies_self : (u : Tree) → HasSettledBelow due u → Readies due zero zero u [] u
  readies_self u h = record { chain = refl; below = tt; settled = h }

  pub readies_weaken : (big deep most deepest : ℕ) (t : Tree) (traces : List Traced) (u : Tree) → Readies due big deep t traces u → big ≤ most → deep ≤ deepest
      → Readies due most deepest t traces u
  readies_weaken big deep most deepest t traces u h wide deeper =
      record { chain = chain_weaken due big deep most deepest traces t u wide deeper h.chain; below = h.below; settled = h.settled }

  -- nothing is due: this is the normal form
  pub readies_settled : (big deep : ℕ) (t : Tree) (traces : List Traced) (u : Tree) → Readies due big deep t traces u → due u ≡ None → Reduces due big deep t traces u
  readies_settled big deep t traces u h e = (h.chain, root_settled u h.settled e)

  -- a replacement is due, and is made
  pub readies_step : (big deep : ℕ) (t : Tree) (traces : List Traced) (u : Tree) (d : Replacement) → Readies due big deep t traces u → due u ≡ Some d
      → size_of d.new ≤ big → depth_of d.new ≤ deep → Chain due big deep t (traces ++ traced (placed [] d) ∷ []) d.new
  readies_step big deep t traces u d h e small shallow =
      chain_on due big deep traces (traced (placed [] d) ∷ []) t u d.new h.chain (d.new, root_step big deep u d h.settled e small shallow, refl)

  -- what is known of a term that takes a step at the root: its way there, the step, and what is known of the new term
  pub kept_step : (big deep b c most deepest : ℕ) (t v : Tree) (traces ts : List Traced) (u : Tree) (d : Replacement)
      → Readies due big deep t traces u → due u ≡ Some d → Reduces due b c d.new ts v
      → big ≤ most → deep ≤ deepest → b ≤ most → c ≤ deepest → size_of d.new ≤ most → depth_of d.new ≤ deepest
      → Reduces due most deepest t (traces ++ traced (placed [] d) ∷ ts) v
  kept_step big deep b c most deepest t v traces ts u d h e r wide deeper b_wide c_deeper small shallow =
      let way = chain_weaken due big deep most deepest traces t u wide deeper h.chain in
      let rest = chain_weaken due b c most deepest ts d.new v b_wide c_deeper r.0 in
      (chain_on due most deepest traces (traced (placed [] d) ∷ ts) t u v way (d.new, root_step most deepest u d h.settled e small shallow, rest), r.1)

  -- the stops there: no budget is left, the new term is past a limit, or it is past the bounds
  pub root_out : (big deep k : ℕ) (t : Tree) (traces : List Traced) (u : Tree) (d : Replacement) → Readies due big deep t traces u → due u ≡ Some d → length traces ≡ k
      → RunsOut due big deep k t
  root_out big deep k t traces u d h e count = record {
    traces = traces;
    here = u;
    place = placed [] d;
    chain = h.chain;
    count = count;
    is_due = root_first u d h.settled e;
  }

  pub root_next : (big deep k : ℕ) (t : Tree) (traces : List Traced) (u : Tree) (d : Replacement) → Readies due big deep t traces u → due u ≡ Some d → length traces < k
      → Next due big deep k t traces d.new
  root_next big deep k t traces u d h e fewer = record {
    here = u;
    place = placed [] d;
    chain = h.chain;
    fewer = fewer;
    is_first = record { first = root_first u d h.settled e; made = refl };
  }

  pub root_breaks : (big deep k left : ℕ) (t : Tree) (traces : List Traced) (u : Tree) (d : Replacement) (l : Limit) → Readies due big deep t traces u → due u ≡ Some d
      → 0 < left → left + length traces ≡ k → first_limit d.new ≡ Some l → Breaks due big deep k left t l
  root_breaks big deep k left t traces u d l h e spare count past = record {
    traces = traces;
    new = d.new;
    next = root_next big deep k t traces u d h e (omega (arith, spare, count));
    past = past;
    count = count;
  }

  pub root_outgrows : (big deep k left : ℕ) (t : Tree) (traces : List Traced) (u : Tree) (d : Replacement) → Readies due big deep t traces u → due u ≡ Some d
      → 0 < left → left + length traces ≡ k → IsWithinLimits d.new → (big < size_of d.new) ⊎ (deep < depth_of d.new) → Outgrows due big deep k left t d.new
  root_outgrows big deep k left t traces u d h e spare count within past = record {
    traces = traces;
    next = root_next big deep k t traces u d h e (omega (arith, spare, count));
    within = within;
    past = past;
    count = count;
  }
