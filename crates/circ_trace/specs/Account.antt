-- The account of a turn of the search: the sides of the goal in hand in normal form, and what the turn does with them.
use Rattle.std.specs.Prelude.{ℕ, Bool, false, List, [], ◌∷◌, ◌++◌, if◌then◌else◌, Option, Some, None, Result, Ok, Err}
use Rattle.circ_term.specs.Tree.{Tree, sort_of}
use Rattle.circ_theory.specs.Theory.{Theory, Pair, goal}
use Rattle.circ_theory.specs.Observing.{is_hidden}
use Rattle.circ_theory.specs.Goal.{Goal}
use Rattle.circ_special.specs.declared.place.Place.{Place}
use Rattle.circ_plain_search.specs.BlockRules.{block_rules}
use Rattle.circ_plain_search.specs.Joining.{Stop, HypothesisUse}
use Rattle.circ_plain_search.specs.Search.{Standing, Sides}
use Rattle.circ_conditional_search.specs.Joining.{joined_trying}
use Rattle.circ_conditional_search.specs.Search.{condition_normaliser, normal_sides_trying, swept_sides_trying, case_term}
use Rattle.circ_attempt.specs.Search.{Conduct, Going}
use Rattle.circ_trace.specs.Deed.{Deed, Joins, Passes, Closes, Cases, Opens, Ends, deed_by, passes_or, plain_deed}
use Rattle.circ_trace.specs.RewritingDeed.{deed_rewriting}
use Rattle.circ_trace.specs.Used.{numbers_of}
use Rattle.circ_trace.specs.declared.account.Account.{Account as TheAccount}

pub record Account : Type 0 where
  pub left : Tree
  pub right : Tree
  pub deed : Deed

abbrev pub account_with : (left right : Tree) → Deed → Account
account_with s t d = record { left = s; right = t; deed = d }

-- by whether the sides join, and else by a lemma pass, the left side first
abbrev pub join_deed_trying : Theory → List Place → (earlier : List Goal) → Goal → (join : Option (List HypothesisUse)) → (budget : ℕ) → Deed
join_deed_trying th G E g (Some us) k = Joins (numbers_of us)
join_deed_trying th G E g None k =
    deed_by (swept_sides_trying th G E g k) (λ w l. passes_or (numbers_of w.0.uses ++ numbers_of w.1.uses) (Opens false))

abbrev pub deed_trying : Theory → List Place → Standing → Goal → (budget : ℕ) → Deed
deed_trying th G st g k =
    deed_by (joined_trying (condition_normaliser th st.earlier g.conds) G st.hypotheses [] g.left g.right k) (join_deed_trying th G st.earlier g)

-- of a goal whose sides are in normal form
abbrev pub deed_on : Theory → List Place → (rewrite : Bool) → Going → Goal → (budget : ℕ) → Deed
deed_on th G on x g k = if on then deed_rewriting th G x.standing x.passed g k else deed_trying th G x.standing g k

abbrev pub cases_or_opens : (attempted : Bool) → Option Tree → Deed
cases_or_opens a None = Opens a
cases_or_opens a (Some u) = Cases a u

-- A hidden goal that is open is split on a term, where hidden goals are split.
abbrev pub with_cases : Theory → (split : Bool) → Goal → Deed → Deed
with_cases th split g (Joins ns) = Joins ns
with_cases th split g (Passes ns) = Passes ns
with_cases th split g (Closes ns) = Closes ns
with_cases th split g (Cases a u) = Cases a u
with_cases th split g (Opens a) = if is_hidden th (sort_of g.left) then cases_or_opens a (case_term th split g) else Opens a
with_cases th split g (Ends a) = Ends a

-- of a goal whose sides are in normal form
abbrev pub account_on : Theory → List Place → Conduct → Going → Goal → (budget : ℕ) → Account
account_on th G c x g k = account_with g.left g.right (with_cases th c.manner.split g (deed_on th G c.rewrite x g k))

-- There is none where normalising ends the search.
abbrev pub account_of : Theory → List Place → Conduct → Going → (conds : List Pair) → Result Sides Stop → Option Account
account_of th G c x A (Err e) = None
account_of th G c x A (Ok n) = Some (account_on th G c x (goal A n.left n.right) n.budget)

-- There is none where no goal is left.
abbrev pub account_at : Theory → List Place → Conduct → Going → (queue : List Goal) → Option Account
account_at th G c x [] = None
account_at th G c x (g ∷ rest) =
    account_of th G c x g.conds (normal_sides_trying th (block_rules th x.standing.earlier) g.conds g.left g.right x.standing.budget)

abbrev pub account : Theory → List Place → Conduct → Going → Option Account
account th G c x = account_at th G c x x.standing.queue

-- ---- what contracts see

abbrev pub plain_account : TheAccount → Account
plain_account a = account_with a.left a.right (plain_deed a.deed)

abbrev pub plain_account_if : Option TheAccount → Option Account
plain_account_if None = None
plain_account_if (Some a) = Some (plain_account a)
