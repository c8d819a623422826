-- How many parts a theory may have, and how large a part may be.
use Rattle.std.specs.Prelude.{ℕ}

-- the most sorts
abbrev pub sort_limit : ℕ
sort_limit = 4096

-- the most declared variables
abbrev pub variable_limit : ℕ
variable_limit = 65536

-- the most operators
abbrev pub operator_limit : ℕ
operator_limit = 65536

-- the most equations
abbrev pub equation_limit : ℕ
equation_limit = 65536

-- the most derivatives
abbrev pub derivative_limit : ℕ
derivative_limit = 256

-- the most arguments of an operator
abbrev pub argument_limit : ℕ
argument_limit = 16

-- the most parameters of a derivative
abbrev pub parameter_limit : ℕ
parameter_limit = 8

-- the most conditions of an equation or a goal
abbrev pub condition_limit : ℕ
condition_limit = 8

-- the most constants of a case list
abbrev pub constant_limit : ℕ
constant_limit = 64
