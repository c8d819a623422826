-- Chains: one after the other, with looser bounds, and of a subterm as of the term in which it stands.
use Rattle.std.proofs.Common.{◌≡◌, ℕ, ◌+◌, ◌≤◌, ◌<◌, List, [], ◌∷◌, ◌++◌, map, length, Option, Some, ap, sym, subst, ◌∙◌, arith, length-append, ◌⊎◌, inl, inr}
use Rattle.std.proofs.lemmas.List.{length-map}
use Rattle.std.proofs.lemmas.Option.{same_Some}
use Rattle.circ_term.specs.Tree.{Tree, replaced, size_of, depth_of}
use Rattle.circ_term.specs.Limits.{Limit, first_limit, IsWithinLimits}
use Rattle.circ_term.proofs.Paths.{replaced_twice}
use Rattle.circ_rewrite.specs.Replacement.{Replacement, Placed, Traced, placed}
use Rattle.circ_rewrite.specs.Standing.{Stands}
use Rattle.circ_rewrite.proofs.Standings.{stands_put, stands_self, replaced_past}
use Rattle.circ_chain.specs.Chain.{under, IsFirst, IsStep, Chain, Reduces, Next, RunsOut, Breaks, Outgrows}
use Rattle.circ_chain.proofs.Standings.{due_first_below, stands_below, size_put, depth_put, depth_under}

module _ (due : Tree → Option Replacement) where
  step_weaken : (big deep more_big more_deep : ℕ) (t u : Tree) (tr : Traced) → big ≤ more_big → deep ≤ more_deep → IsStep due big deep t tr u → IsStep due more_big more_deep t tr u
  step_weaken big deep more_big more_deep t u tr b d s = record {
    replacement = s.replacement;
    is_first = s.is_first;
    is_trace = s.is_trace;
    small = omega (arith, s.small);
    shallow = omega (arith, s.shallow);
  }

  -- one after the other
  pub chain_on : (big deep : ℕ) (ts us : List Traced) (t u v : Tree) → Chain due big deep t ts u → Chain due big deep u us v → Chain due big deep t (ts ++ us) v
  chain_on big deep [] us t u v a b = subst (λ x. Chain due big deep x us v) (sym a) b
  chain_on big deep (tr ∷ ts) us t u v a b = (a.0, a.1, chain_on big deep ts us a.0 u v a.2 b)

  pub chain_weaken : (big deep more_big more_deep : ℕ) (ts : List Traced) (t v : Tree) → big ≤ more_big → deep ≤ more_deep → Chain due big deep t ts v
      → Chain due more_big more_deep t ts v
  chain_weaken big deep more_big more_deep [] t v b d r = r
  chain_weaken big deep more_big more_deep (tr ∷ ts) t v b d r =
      (r.0, step_weaken big deep more_big more_deep t r.0 tr b d r.1, chain_weaken big deep more_big more_deep ts r.0 v b d r.2)

  pub reduces_weaken : (big deep more_big more_deep : ℕ) (ts : List Traced) (t v : Tree) → big ≤ more_big → deep ≤ more_deep → Reduces due big deep t ts v
      → Reduces due more_big more_deep t ts v
  reduces_weaken big deep more_big more_deep ts t v b d r = (chain_weaken big deep more_big more_deep ts t v b d r.0, r.1)

  -- each term on the way is within the bounds that the first one is within
  pub chain_within : (big deep : ℕ) (ts : List Traced) (t u : Tree) → size_of t ≤ big → depth_of t ≤ deep → Chain due big deep t ts u → (size_of u ≤ big) × (depth_of u ≤ deep)
  chain_within big deep [] t u s d c = subst (λ x. (size_of x ≤ big) × (depth_of x ≤ deep)) c (s, d)
  chain_within big deep (tr ∷ ts) t u s d c = chain_within big deep ts c.0 u c.1.small c.1.shallow c.2

  -- what is due first in a subterm that stands, in the whole term
  first_up : (p : List ℕ) (q : Placed) (w t x y : Tree) → Stands due w p t → IsFirst due q t x → replaced w p x ≡ Some y → IsFirst due (placed (p ++ q.path) q.replacement) w y
  first_up p q w t x y s h put = record {
    first = due_first_below due p w t q.path q.replacement s h.first;
    made = stands_below due p w t q.path q.replacement.new x s h.made ∙ put;
  }

  -- a chain of a subterm is one of the term in which it stands
  pub chain_up : (big deep more_big more_deep : ℕ) (ts : List Traced) (p : List ℕ) (w t v x : Tree)
      → Stands due w p t → Chain due big deep t ts v → size_of w + big ≤ more_big + size_of t → depth_of w ≤ more_deep → length p + deep ≤ more_deep
      → replaced w p v ≡ Some x → Chain due more_big more_deep w (map (under p) ts) x
  chain_up big deep more_big more_deep [] p w t v x s r small deep_w shallow put =
      same_Some w x (sym (stands_self due p w t s) ∙ ap (replaced w p) r ∙ put)
  chain_up big deep more_big more_deep (tr ∷ ts) p w t v x s r small deep_w shallow put =
      let u : Tree = r.0 in
      let d : Replacement = r.1.replacement in
      let next = stands_put due p w t u s in
      let sizes = size_put due p w t u next.0 s next.1 in
      let depths = depth_put due p w t u next.0 s next.1 in (
        next.0,
        record {
          replacement = d;
          is_first = first_up p (placed tr.path d) w t u next.0 s r.1.is_first next.1;
          is_trace = ap (under p) r.1.is_trace;
          small = omega (arith, r.1.small);
          shallow = omega (arith, r.1.shallow);
        },
        chain_up big deep more_big more_deep ts p next.0 u v x next.2 r.2 (omega (arith, r.1.small)) (omega (arith, r.1.shallow)) shallow
            (replaced_twice p w u next.0 v next.1 ∙ put),
      )

  -- stops after a chain, where the budget of the whole is n
  pub next_on : (big deep k n : ℕ) (ts us : List Traced) (t u x : Tree) → Chain due big deep t ts u → Next due big deep k u us x → length ts + k ≡ n
      → Next due big deep n t (ts ++ us) x
  next_on big deep k n ts us t u x a b e = record {
    here = b.here;
    place = b.place;
    chain = chain_on big deep ts us t u b.here a b.chain;
    fewer = omega (arith, length-append ts us, b.fewer);
    is_first = b.is_first;
  }

  pub out_on : (big deep k n : ℕ) (ts : List Traced) (t u : Tree) → Chain due big deep t ts u → RunsOut due big deep k u → length ts + k ≡ n → RunsOut due big deep n t
  out_on big deep k n ts t u a r e = record {
    traces = ts ++ r.traces;
    here = r.here;
    place = r.place;
    chain = chain_on big deep ts r.traces t u r.here a r.chain;
    count = omega (arith, length-append ts r.traces, r.count);
    is_due = r.is_due;
  }

  pub breaks_on : (big deep k n left : ℕ) (ts : List Traced) (t u : Tree) (l : Limit) → Chain due big deep t ts u → Breaks due big deep k left u l → length ts + k ≡ n
      → Breaks due big deep n left t l
  breaks_on big deep k n left ts t u l a b e = record {
    traces = ts ++ b.traces;
    new = b.new;
    next = next_on big deep k n ts b.traces t u b.new a b.next e;
    past = b.past;
    count = omega (arith, length-append ts b.traces, b.count);
  }

  pub outgrows_on : (big deep k n left : ℕ) (ts : List Traced) (t u x : Tree) → Chain due big deep t ts u → Outgrows due big deep k left u x → length ts + k ≡ n
      → Outgrows due big deep n left t x
  outgrows_on big deep k n left ts t u x a o e = record {
    traces = ts ++ o.traces;
    next = next_on big deep k n ts o.traces t u x a o.next e;
    within = o.within;
    past = o.past;
    count = omega (arith, length-append ts o.traces, o.count);
  }

  -- stops of a subterm are stops of the term in which it stands
  pub next_up : (big deep more_big more_deep k : ℕ) (ts : List Traced) (p : List ℕ) (w t x y : Tree)
      → Stands due w p t → Next due big deep k t ts x → size_of w + big ≤ more_big + size_of t → depth_of w ≤ more_deep → length p + deep ≤ more_deep
      → replaced w p x ≡ Some y → Next due more_big more_deep k w (map (under p) ts) y
  next_up big deep more_big more_deep k ts p w t x y s n small deep_w shallow put =
      let there = stands_put due p w t n.here s in
      record {
        here = there.0;
        place = placed (p ++ n.place.path) n.place.replacement;
        chain = chain_up big deep more_big more_deep ts p w t n.here there.0 s n.chain small deep_w shallow there.1;
        fewer = omega (arith, length-map ts (under p), n.fewer);
        is_first = first_up p n.place there.0 n.here x y there.2 n.is_first (replaced_twice p w n.here there.0 x there.1 ∙ put);
      }

  pub out_up : (big deep more_big more_deep k : ℕ) (p : List ℕ) (w t : Tree)
      → Stands due w p t → RunsOut due big deep k t → size_of w + big ≤ more_big + size_of t → depth_of w ≤ more_deep → length p + deep ≤ more_deep
      → RunsOut due more_big more_deep k w
  out_up big deep more_big more_deep k p w t s r small deep_w shallow =
      let there = stands_put due p w t r.here s in
      record {
        traces = map (under p) r.traces;
        here = there.0;
        place = placed (p ++ r.place.path) r.place.replacement;
        chain = chain_up big deep more_big more_deep r.traces p w t r.here there.0 s r.chain small deep_w shallow there.1;
        count = length-map r.traces (under p) ∙ r.count;
        is_due = due_first_below due p there.0 r.here r.place.path r.place.replacement there.2 r.is_due;
      }

  pub breaks_up : (big deep more_big more_deep k left : ℕ) (p : List ℕ) (w t : Tree) (l : Limit)
      → Stands due w p t → IsWithinLimits w → Breaks due big deep k left t l → size_of w + big ≤ more_big + size_of t → depth_of w ≤ more_deep → length p + deep ≤ more_deep
      → Breaks due more_big more_deep k left w l
  breaks_up big deep more_big more_deep k left p w t l s h b small deep_w shallow =
      let put = stands_put due p w t b.new s in
      record {
        traces = map (under p) b.traces;
        new = put.0;
        next = next_up big deep more_big more_deep k b.traces p w t b.new put.0 s b.next small deep_w shallow put.1;
        past = replaced_past due p w t b.new put.0 l s h put.1 b.past;
        count = omega (arith, length-map b.traces (under p), b.count);
      }

  -- A subterm outgrows its bounds. Where the term made around it passes a limit, that is the first; else the term outgrows its own bounds.
  pub outgrows_breaks : (big deep more_big more_deep k left : ℕ) (p : List ℕ) (w t x y : Tree) (l : Limit)
      → Stands due w p t → Outgrows due big deep k left t x → size_of w + big ≤ more_big + size_of t → depth_of w ≤ more_deep → length p + deep ≤ more_deep
      → replaced w p x ≡ Some y → first_limit y ≡ Some l → Breaks due more_big more_deep k left w l
  outgrows_breaks big deep more_big more_deep k left p w t x y l s o small deep_w shallow put past = record {
    traces = map (under p) o.traces;
    new = y;
    next = next_up big deep more_big more_deep k o.traces p w t x y s o.next small deep_w shallow put;
    past = past;
    count = omega (arith, length-map o.traces (under p), o.count);
  }

  pub outgrows_up : (big deep more_big more_deep k left : ℕ) (p : List ℕ) (w t x y : Tree)
      → Stands due w p t → Outgrows due big deep k left t x → size_of w + big ≡ more_big + size_of t → depth_of w ≤ more_deep → length p + deep ≡ more_deep
      → replaced w p x ≡ Some y → IsWithinLimits y → Outgrows due more_big more_deep k left w y
  outgrows_up big deep more_big more_deep k left p w t x y s o small deep_w shallow put within = record {
    traces = map (under p) o.traces;
    next = next_up big deep more_big more_deep k o.traces p w t x y s o.next (omega arith) deep_w (omega arith) put;
    within = within;
    past = either o.past;
    count = omega (arith, length-map o.traces (under p), o.count);
  }
    where
      either : (big < size_of x) ⊎ (deep < depth_of x) → (more_big < size_of y) ⊎ (more_deep < depth_of y)
      either (inl b) = inl (omega (arith, size_put due p w t x y s put))
      either (inr b) = inr (omega (arith, depth_under due p w t x y s put))
