-- What is told of texts that are refused.
use Rattle.std.specs.Prelude.{◌≡◌, ◌==◌, ◌⊎◌, ◌++◌, ℕ, List, [], codes, Ok, Err, if◌then◌else◌}
use Rattle.std.specs.Fmt.{decimal}
use Rattle.std.specs.Io.{StartsWith}
use Rattle.racp_model.specs.Project.{Project}
use Rattle.racp_sm.specs.Faults.{SmFault, fault_number as sm_number, fault_name as sm_name}
use Rattle.racp_sm.specs.Reading.{IsReadingOrMemory}
use Rattle.racp_prices.specs.Faults.{fault_number as order_number, fault_name as order_name}
use Rattle.racp_prices.specs.declared.fault.OrderFault.{OrderFault}
use Rattle.racp_plan.specs.TextFaults.{TextFault, fault_number as plan_number, fault_name as plan_name}
use Rattle.racp_explain.specs.declared.input.Input.{Input}

-- `:LINE`, and nothing of no one line
abbrev pub line_place : ℕ → List ℕ
line_place line = if line == 0 then [] else codes ":" ++ decimal line

-- `racp: NAMEPLACE: FORMAT NUMBER FAULT`
unfoldable pub placed_head : List ℕ → List ℕ → List ℕ → ℕ → List ℕ → List ℕ
placed_head name place format number fault =
    codes "racp: " ++ name ++ place ++ codes ": " ++ format ++ codes " " ++ decimal number ++ codes " " ++ fault

-- `racp: NAME:LINE: FORMAT NUMBER FAULT`
abbrev pub line_head : List ℕ → ℕ → List ℕ → ℕ → List ℕ → List ℕ
line_head name line format number fault = placed_head name (line_place line) format number fault

-- the same of a fault of a network text, and of one of a plan text
abbrev pub network_head : List ℕ → SmFault → List ℕ
network_head name fault = line_head name fault.line (codes "sm") (sm_number fault.kind) (sm_name fault.kind)

abbrev pub plan_head : List ℕ → TextFault → List ℕ
plan_head name fault = line_head name fault.line (codes "plan") (plan_number fault.kind) (plan_name fault.kind)

-- `racp: NAME: order NUMBER FAULT`
unfoldable pub order_head : List ℕ → OrderFault → List ℕ
order_head name fault = codes "racp: " ++ name ++ codes ": order " ++ decimal (order_number fault) ++ codes " " ++
    order_name fault

-- what is told of a network text: nothing if it is read, and else words that begin with where and what the fault is
abbrev pub IsNetworkCause : Input → List ℕ → Type 0
IsNetworkCause net text =
    ((fault : SmFault) × IsReadingOrMemory net.bytes.now (Err fault) × StartsWith text (network_head net.name.now fault)) ⊎
    ((p : Project) × IsReadingOrMemory net.bytes.now (Ok p) × (text ≡ []))
