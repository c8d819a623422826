-- Where the goals of a block come from that wait for their turns, in the order of the queue.
use Rattle.std.specs.Prelude.{ℕ, zero, suc, ◌+◌, ◌==◌, List, [], ◌∷◌, ◌++◌, length, map, if◌then◌else◌, Option, Some, None}
use Rattle.circ_term.specs.Tree.{sort_of}
use Rattle.circ_theory.specs.Theory.{Theory, Derivative}
use Rattle.circ_theory.specs.Observing.{is_hidden}
use Rattle.circ_theory.specs.Goal.{Goal}
use Rattle.circ_plain_search.specs.Search.{Standing, constants_of}
use Rattle.circ_trace.specs.declared.descent.Descent.{Descent}
use Rattle.circ_trace.specs.declared.descent.Descent.TheVariants.{Given, Derived, Case}
use Rattle.circ_trace.specs.Account.{Account}
use Rattle.circ_trace.specs.Deed.{Deed, Joins, Passes, Closes, Cases, Opens, Ends}

-- the goal in hand is the first that waits
abbrev pub first_descent : List Descent → Descent
first_descent [] = Given
first_descent (d ∷ ds) = d

abbrev pub others : List Descent → List Descent
others [] = []
others (d ∷ ds) = ds

abbrev pub given_row : List Goal → List Descent
given_row gs = map (λ g. Given) gs

-- for the goals of the first block, if there is one
abbrev pub first_row : List (List Goal) → List Descent
first_row [] = []
first_row (b ∷ bs) = given_row b

-- For what is derived of goal n: one for each derivative whose hole has the goal's sort. The first of the derivatives has number i.
abbrev pub derived_row : (n sort i : ℕ) → List Derivative → List Descent
derived_row n s i [] = []
derived_row n s i (d ∷ ds) = if d.hole == s then Derived n i ∷ derived_row n s (i + 1) ds else derived_row n s (i + 1) ds

-- a goal that is open is derived where it is hidden
abbrev pub with_derived : Theory → (n sort : ℕ) → List Descent → List Descent
with_derived th n s ds = if is_hidden th s then ds ++ derived_row n s 0 th.derivatives else ds

-- cases 1 to k of goal n, before others
abbrev pub case_row : (n k : ℕ) → List Descent → List Descent
case_row n zero ds = ds
case_row n (suc k) ds = case_row n k (Case n (suc k) ∷ ds)

abbrev pub after_deed : Theory → List Descent → (n sort : ℕ) → Deed → List Descent
after_deed th ds n s (Joins ns) = others ds
after_deed th ds n s (Passes ns) = ds
after_deed th ds n s (Closes ns) = others ds
after_deed th ds n s (Cases a u) = case_row n (length (constants_of th (sort_of u))) (others ds)
after_deed th ds n s (Opens a) = with_derived th n s (others ds)
after_deed th ds n s (Ends a) = ds

-- after the turn of goal n
abbrev pub after_account : Theory → List Descent → (n : ℕ) → Account → List Descent
after_account th ds n a = after_deed th ds n (sort_of a.left) a.deed

-- After a turn, by its account. Where no goal was left the next block begins.
abbrev pub after_turn : Theory → List Descent → Standing → Option Account → List Descent
after_turn th ds st None = first_row st.later
after_turn th ds st (Some a) = after_account th ds (st.taken + 1) a
