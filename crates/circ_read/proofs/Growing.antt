-- A text takes no sort away.
use Rattle.std.proofs.Common.{ℕ, ◌≤◌, List, [], ◌∷◌, ◌++◌, length, Bool, true, false, if◌then◌else◌, is_some, sym, subst, arith}
use Rattle.std.proofs.lemmas.List.{length-append}
use Rattle.circ_theory.specs.Theory.{Theory, declared}
use Rattle.circ_theory.specs.Adding.{var_number, with_sort}
use Rattle.circ_statement.specs.Said.{Said, inclusion, sorts, operators, variables, equation, derivative, cases}
use Rattle.circ_read.specs.Text.{Reaches, start, next, ReadsTo}
use Rattle.circ_read.specs.Adding.{AddsStatement, with_all, with_variable, with_operator}

-- the second theory has as many sorts or more
abbrev pub HasMoreSorts : Theory → Theory → Type 0
HasMoreSorts th u = length th.signature.sorts ≤ length u.signature.sorts

all_grow : {A : Type 0} (with_one : Theory → A → Theory) → ((th : Theory) (a : A) → HasMoreSorts th (with_one th a)) → (th : Theory) (parts : List A) → HasMoreSorts th (with_all with_one th parts)
all_grow with_one one th [] = omega arith
all_grow with_one one th (a ∷ rest) = let g = one th a in let h = all_grow with_one one (with_one th a) rest in omega (arith, g, h)

sort_grows : (th : Theory) (w : List ℕ) → HasMoreSorts th (with_sort th w)
sort_grows th w = simp length-append (omega arith)

variable_grows : (s : ℕ) (th : Theory) (w : List ℕ) → HasMoreSorts th (with_variable s th w)
variable_grows s th w = go (is_some (var_number th w))
  where
    go : (b : Bool) → HasMoreSorts th (if b then th else record th { variables = th.variables ++ declared w s ∷ [] })
    go true = omega arith
    go false = omega arith

statement_grows : (th : Theory) (s : Said) (u : Theory) → AddsStatement th s u → HasMoreSorts th u
statement_grows th (inclusion name) u h = absurd h
statement_grows th (sorts names) u h = subst (HasMoreSorts th) (sym h.is) (all_grow with_sort sort_grows th names)
statement_grows th (operators forms args result a c i) u h =
    subst (HasMoreSorts th) (sym h.adds.is) (all_grow (with_operator h.sorts h.sort a c i) (λ v p. omega arith) th forms)
statement_grows th (variables names sort) u h = subst (HasMoreSorts th) (sym h.adds.is) (all_grow (with_variable h.number) (variable_grows h.number) th names)
statement_grows th (equation left right conds exec) u h = subst (HasMoreSorts th) (sym h.is) (omega arith)
statement_grows th (derivative term) u h = subst (HasMoreSorts th) (sym h.is) (omega arith)
statement_grows th (cases sort names) u h = subst (HasMoreSorts th) (sym h.is) (omega arith)

reached_grow : (first : Theory) (body : List (List ℕ)) (k : ℕ) (u : Theory) (left : List (List ℕ)) → Reaches AddsStatement first body k u left → HasMoreSorts first u
reached_grow first body k u left start = omega arith
reached_grow first body k u left (next i a b here ws rest r e n d) =
    let g = reached_grow first body i a here r in
    let h = statement_grows a d.said b d.adds in
    omega (arith, g, h)

pub text_grows : (th : Theory) (bytes : List ℕ) (u : Theory) → ReadsTo AddsStatement (λ _. th) bytes u → HasMoreSorts th u
text_grows th bytes u l = reached_grow th l.body l.count u _ l.statements
