-- From what planning prints or refuses to an answer to the texts.
use Rattle.std.proofs.Common.{◌≡◌, ◌⊎◌, ℕ, Bool, List, length, Ok, Err, refl, sym, subst, inl, inr}
use Rattle.racp_model.specs.Project.{Project}
use Rattle.racp_sm.specs.Reading.{IsReading, IsReadingOrMemory}
use Rattle.racp_sm.specs.Faults.{SmFault}
use Rattle.racp_prices.specs.Orders.{IsOrderOrMemory}
use Rattle.racp_prices.specs.declared.fault.OrderFault.{OrderFault}
use Rattle.racp_lexfix.specs.Printing.{IsRefusal, IsCrowdEnd}
use Rattle.racp_by_questions.specs.declared.stop.PlanStop.{PlanStop}
use Rattle.racp_by_questions.specs.declared.stop.PlanStop.TheVariants.{Stopped, Memory, NoThread}
use Rattle.racp_lexfix.specs.declared.printed.Refusal.{Refusal}
use Rattle.racp_lexfix.specs.declared.printed.Refusal.TheVariants.{Sm, Order, Stop}
use Rattle.racp_cli.specs.Texts.{memory_line}
use Rattle.racp_cli.specs.Responses.{IsNetworkRefused, IsOrderRefused, IsRefusedLine}
use Rattle.racp_cli.specs.Plans.{IsNetworkLine, IsOrderLine, IsMemoryLine, IsPlanAnswer}
use Rattle.racp_cli.specs.Crowds.{IsCrowdAnswer}
use Rattle.racp_cli.proofs.Answering.{right_refusal}

-- the line of a network text that is refused
pub network_line : (net : List ℕ) (fault : SmFault) (status : ℕ) (text : List ℕ) → IsReadingOrMemory net (Err fault) → IsNetworkRefused fault status text → IsNetworkLine net status text
network_line net fault status text reading (other, with_status, with_text) = (fault, right_refusal net fault reading other, sym with_status, sym with_text)

-- the line of an order text that is refused
pub order_line : (net order : List ℕ) (network : Project) (fault : OrderFault) (status : ℕ) (text : List ℕ) → IsReading net (Ok network) →
    IsOrderOrMemory network.resources (length network.jobs) order (Err fault) → IsOrderRefused fault status text → IsOrderLine net order status text
order_line net order network fault status text reading (inl right) (other, with_status, with_text) = (network, fault, reading, right, sym with_status, sym with_text)
order_line net order network fault status text reading (inr (utf8, memory)) (other, with_status, with_text) = absurd (other memory)

-- the line where there is no answer: which text is refused; for on one thread planning ends early only where memory runs out
pub line_refused : (net order : List ℕ) (refusal : Refusal) (status : ℕ) (text : List ℕ) → IsRefusal (λ stop. stop ≡ Memory) net order refusal → IsRefusedLine refusal status text →
    IsNetworkLine net status text ⊎ (IsOrderLine net order status text ⊎ IsMemoryLine status text)
line_refused net order (Sm fault) status text reading refused = inl (network_line net fault status text reading refused)
line_refused net order (Order fault) status text right refused = inr (inl (order_line net order right.0 fault status text right.1 right.2 refused))
line_refused net order (Stop stop) status text is refused = absurd (subst (λ (s : PlanStop). IsRefusedLine (Stop s) status text) is refused)

-- the line where workers give no answer: which text is refused, that they were stopped, or that one could not be started
pub crowd_refused : (turns : ℕ) (quiet : Bool) (net order : List ℕ) (refusal : Refusal) (status : ℕ) (text : List ℕ) → IsRefusal (IsCrowdEnd turns quiet net order) net order refusal → IsRefusedLine refusal status text →
    IsCrowdAnswer turns quiet net order status text
crowd_refused turns quiet net order (Sm fault) status text reading refused = inl (inr (inl (network_line net fault status text reading refused)))
crowd_refused turns quiet net order (Order fault) status text right refused = inl (inr (inr (inl (order_line net order right.0 fault status text right.1 right.2 refused))))
crowd_refused turns quiet net order (Stop (Stopped not_before)) status text (network, terms, are_terms, told) refused = inr (inl (record {
  network = network;
  terms = terms;
  not_before = not_before;
  are_terms = are_terms;
  may_stop = told.0;
  none = told.1;
  floors = told.2;
  with_status = sym refused.0;
  with_text = sym refused.1;
}))
crowd_refused turns quiet net order (Stop Memory) status text is refused = absurd refused
crowd_refused turns quiet net order (Stop NoThread) status text is refused = inr (inr (sym refused.0, sym refused.1))

-- the answer where memory ran out
pub plan_memory : (net order : List ℕ) → IsPlanAnswer net order 6 memory_line
plan_memory net order = inr (inr (inr (refl, refl)))
