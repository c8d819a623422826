-- What comes of a piece of work: the units that are left are not more than there were, the value has a property, and it never stops.
use Rattle.std.proofs.Common.{◌≡◌, ◌≤◌, ◌<◌, ℕ, List, [], ◌∷◌, zero, suc, Option, Some, None, refl, arith}
use Rattle.std.specs.Option.{option_map_or}
use Rattle.circ_term.specs.Tree.{Tree}
use Rattle.circ_term.specs.Limits.{Limit, first_limit, IsWithinLimits}
use Rattle.circ_expansion.specs.Expand.{Spending, Yields, Long, Past, Stopped, continued, counted, tested, all_tested}

-- with n units at first
abbrev pub Goes : {A : Type 0} → (A → Type 0) → (n : ℕ) → Spending A → Type 0
Goes P n (Yields a m) = (m ≤ n) × P a
Goes P n Long = Unit {0}
Goes P n (Past l) = Unit {0}
Goes P n Stopped = ⊥

-- with fewer units at first
pub goes_fewer : {A : Type 0} (P : A → Type 0) (n k : ℕ) → k ≤ n → (o : Spending A) → Goes P k o → Goes P n o
goes_fewer P n k l (Yields a m) g = (omega (arith, l, g.0), g.1)
goes_fewer P n k l Long g = tt
goes_fewer P n k l (Past x) g = tt
goes_fewer P n k l Stopped g = absurd g

pub goes_so : {A : Type 0} (P Q : A → Type 0) (n : ℕ) → ((a : A) → P a → Q a) → (o : Spending A) → Goes P n o → Goes Q n o
goes_so P Q n h (Yields a m) g = (g.0, h a g.1)
goes_so P Q n h Long g = tt
goes_so P Q n h (Past x) g = tt
goes_so P Q n h Stopped g = absurd g

-- one piece of work, and then what follows
pub goes_on : {A B : Type 0} (P : A → Type 0) (Q : B → Type 0) (n : ℕ) (o : Spending A) (F : A → ℕ → Spending B) → Goes P n o
    → ((a : A) (m : ℕ) → m ≤ n → P a → Goes Q m (F a m)) → Goes Q n (continued o F)
goes_on P Q n (Yields a m) F g h = goes_fewer Q n m g.0 (F a m) (h a m g.0 g.1)
goes_on P Q n Long F g h = tt
goes_on P Q n (Past l) F g h = tt
goes_on P Q n Stopped F g h = absurd g

-- a unit is counted
pub goes_counted : {A : Type 0} (P : A → Type 0) (n : ℕ) (F : ℕ → Spending A) → ((k : ℕ) → k < n → Goes P k (F k)) → Goes P n (counted n F)
goes_counted P zero F h = tt
goes_counted P (suc n) F h = goes_fewer P (suc n) n (omega arith) (F n) (h n (omega arith))

-- terms are tested
pub goes_tested : {A : Type 0} (P : A → Type 0) (n : ℕ) (t : Tree) (o : Spending A) → (IsWithinLimits t → Goes P n o) → Goes P n (tested t o)
goes_tested P n t o h = go (first_limit t) refl
  where
    go : (l : Option Limit) → first_limit t ≡ l → Goes P n (option_map_or Past l o)
    go None e = h e
    go (Some l) e = tt

pub goes_all_tested : {A : Type 0} (P : A → Type 0) (n : ℕ) (ts : List Tree) (o : Spending A) → Goes P n o → Goes P n (all_tested ts o)
goes_all_tested P n [] o g = g
goes_all_tested P n (t ∷ ts) o g = goes_tested P n t (all_tested ts o) (λ w. goes_all_tested P n ts o g)

-- what is given
pub goes_value : {A : Type 0} (P : A → Type 0) (n : ℕ) (a : A) → P a → Goes P n (Yields a n)
goes_value P n a p = (omega arith, p)
