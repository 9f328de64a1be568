-- The fault of a text: what is wrong, and at which line.
use Rattle.std.specs.Prelude.{ℕ, Result, Err}
use Rattle.racp_text.specs.declared.fault.LineFault.{LineFault}

-- the fault of this kind at this line
abbrev pub fault_at : {K : Type 0} → K → ℕ → LineFault K
fault_at kind line = record { kind = kind; line = line }

-- a fault in place of what is read
abbrev pub refused : {A K : Type 0} → K → ℕ → Result A (LineFault K)
refused kind line = Err (fault_at kind line)
