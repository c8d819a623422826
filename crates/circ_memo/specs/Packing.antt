-- An entry in 24 bytes.
use Rattle.std.specs.Prelude.{ℕ, ◌/◌, ◌%◌, ◌==◌, if◌then◌else◌, List, Option, Some, None, refl}
use Rattle.std.specs.Coded.{Coded, code_by, coded×, coded_ℕ, coded_list, coded_option}
use Rattle.circ_memo.specs.declared.parts.Entry.{Entry}
use Rattle.circ_memo.specs.declared.packed.Packed.{Packed}
use Rattle.circ_memo.specs.declared.packed.TheConstants.{NONE, DEPTHS}

abbrev pub entry_code : Coded Entry
entry_code =
    code_by (ℕ × (ℕ × (ℕ × (ℕ × (ℕ × Option ℕ))))) (coded× coded_ℕ (coded× coded_ℕ (coded× coded_ℕ (coded× coded_ℕ (coded× coded_ℕ (coded_option coded_ℕ))))))
    (λ e. (e.value, (e.count, (e.big, (e.deep, (e.ready, e.next))))))
    (λ p. record { value = p.0; count = p.1.0; big = p.1.1.0; deep = p.1.1.1.0; ready = p.1.1.1.1.0; next = p.1.1.1.1.1 })
    (λ _. refl)

abbrev pub entries_code : Coded (List (Option Entry))
entries_code = coded_list (coded_option entry_code)

-- the number, where it is that of a term
abbrev pub number_in : ℕ → Option ℕ
number_in n = if n == NONE then None else Some n

-- the entry that is packed, if one is
abbrev pub unpacked : Packed → Option Entry
unpacked p =
    if p.value == NONE then None else Some (record {
      value = p.value;
      count = p.count;
      big = p.bounds / DEPTHS;
      deep = p.bounds % DEPTHS;
      ready = p.ready;
      next = number_in p.next;
    })
