-- A chain is gone through from a link on.
use Rattle.std.specs.Prelude.{◌≡◌, ℕ, ◌-◌, ◌≤◌, ◌<◌, List, length, Option, Some, None, refl}
use Rattle.std.specs.List.{slice_get}
use Rattle.std.proofs.Common.{ap, sym, subst, ◌∙◌, arith, ◌⊎◌, inl, inr}
use Rattle.std.proofs.lemmas.Bool.{cases_eq, cases_lt}
use Rattle.std.proofs.lemmas.Option.{same_Some}
use Rattle.circ_hash_chains.specs.declared.hash_chains.Link.{Link}
use Rattle.circ_hash_chains.specs.declared.hash_chains.TheConstants.{CHAIN_END}
use Rattle.circ_hash_chains.specs.Keys.{IsLastBelow}
use Rattle.circ_hash_chains.specs.Chains.{keys_of, chain_of, Leads, IsNewest, IsLinked}
use Rattle.circ_hash_chains.proofs.Lists.{get_map}

-- The walk began at `start`, and is at `link`: no number that was passed by has the key.
pub record IsWalk (keys : List ℕ) (width key start link : ℕ) : Type 0 where
  pub leads : Leads keys width (chain_of key width) start link
  pub passed : (m : ℕ) → link ≤ m → m < start → slice_get keys m ≡ Some key → ⊥

pub walk_begun : (keys : List ℕ) (width key count start : ℕ) → Leads keys width (chain_of key width) count start → IsWalk keys width key start start
walk_begun keys width key count start h = record { leads = go h; passed = λ m a b e. omega arith }
  where
    go : Leads keys width (chain_of key width) count start → Leads keys width (chain_of key width) start start
    go (inl e) = inl e
    go (inr s) = inr (s.0, omega arith, s.2)

pub walk_within : (keys : List ℕ) (width key count start link : ℕ) → Leads keys width (chain_of key width) count start → IsWalk keys width key start link → CHAIN_END < link → link - 1 < count
walk_within keys width key count start link h k up = go h k.leads
  where
    go : Leads keys width (chain_of key width) count start → Leads keys width (chain_of key width) start link → link - 1 < count
    go (inl e) (inl f) = absurd (omega arith)
    go (inl e) (inr s) = absurd (omega (arith, s.1))
    go (inr t) (inl f) = absurd (omega arith)
    go (inr t) (inr s) = omega (arith, s.1, t.1)

pub walk_found : (links : List Link) (width key start link : ℕ) (on : Link) → IsWalk (keys_of links) width key start link → CHAIN_END < link
    → slice_get links (link - 1) ≡ Some on → on.key ≡ key → IsLastBelow (keys_of links) key start (Some (link - 1))
walk_found links width key start link on k up read same = (
  below k.leads,
  get_map (λ l. l.key) links (link - 1) on read ∙ ap Some same,
  λ m a b e. k.passed m (omega arith) b e,
)
  where
    below : Leads (keys_of links) width (chain_of key width) start link → link - 1 < start
    below (inl e) = absurd (omega arith)
    below (inr s) = omega (arith, s.1)

pub walk_on : (links : List Link) (heads : List ℕ) (key start link : ℕ) (on : Link) → IsLinked (keys_of links) links heads (length links) → link - 1 < length links
    → IsWalk (keys_of links) (length heads) key start link → CHAIN_END < link → slice_get links (link - 1) ≡ Some on → (on.key ≡ key → ⊥)
    → IsWalk (keys_of links) (length heads) key start on.next × (on.next < link)
walk_on links heads key start link on h within k up read other = go k.leads
  where
    there : slice_get (keys_of links) (link - 1) ≡ Some on.key
    there = get_map (λ l. l.key) links (link - 1) on read

    go : Leads (keys_of links) (length heads) (chain_of key (length heads)) start link → IsWalk (keys_of links) (length heads) key start on.next × (on.next < link)
    go (inl e) = absurd (omega arith)
    go (inr s) = (record { leads = on_leads newest.leads; passed = λ m a b e. passed m a b e (cases_eq m (link - 1)) }, down newest.leads)
      where
        chain : chain_of on.key (length heads) ≡ chain_of key (length heads)
        chain = ap (λ n. chain_of n (length heads)) (same_Some on.key s.2.0 (sym there ∙ s.2.1)) ∙ s.2.2

        newest : IsNewest (keys_of links) (length heads) (chain_of key (length heads)) (link - 1) on.next
        newest = let P : ℕ → Type 0 = λ c. IsNewest (keys_of links) (length heads) c (link - 1) on.next in subst P chain (h.older (link - 1) on within read)

        on_leads : Leads (keys_of links) (length heads) (chain_of key (length heads)) (link - 1) on.next → Leads (keys_of links) (length heads) (chain_of key (length heads)) start on.next
        on_leads (inl e) = inl e
        on_leads (inr t) = inr (t.0, omega (arith, t.1, s.1), t.2)

        down : Leads (keys_of links) (length heads) (chain_of key (length heads)) (link - 1) on.next → on.next < link
        down (inl e) = omega arith
        down (inr t) = omega (arith, t.1)

        passed : (m : ℕ) → on.next ≤ m → m < start → slice_get (keys_of links) m ≡ Some key → (m ≡ link - 1) ⊎ (m ≡ link - 1 → ⊥) → ⊥
        passed m a b e (inl same) = other (same_Some on.key key (sym there ∙ ap (slice_get (keys_of links)) (sym same) ∙ e))
        passed m a b e (inr apart) = sides (cases_lt m (link - 1))
          where
            sides : (m < link - 1) ⊎ (link - 1 ≤ m) → ⊥
            sides (inl l) = let up_to = newest.above m l (key, e, refl) in absurd (omega arith)
            sides (inr l) = k.passed m (omega arith) b e

pub walk_ended : (keys : List ℕ) (width key start : ℕ) → IsWalk keys width key start CHAIN_END → IsLastBelow keys key start None
walk_ended keys width key start k m b e = k.passed m (omega arith) b e

-- below a greater bound too, where nothing of the chain stands between
pub last_below : (keys : List ℕ) (width key count start : ℕ) → IsNewest keys width (chain_of key width) count start → (o : Option ℕ) → IsLastBelow keys key start o → IsLastBelow keys key count o
last_below keys width key count start h None k = λ m b e. k m (h.above m b (key, e, refl)) e
last_below keys width key count start h (Some n) k = (within h.leads, k.1, λ m a b e. k.2 m a (h.above m b (key, e, refl)) e)
  where
    within : Leads keys width (chain_of key width) count start → n < count
    within (inl e) = absurd (omega (arith, k.0))
    within (inr s) = omega (arith, k.0, s.1)
