-- From the table of a text to what the text is read as.
use Rattle.std.proofs.Common.{◌≡◌, refl, sym, ◌∙◌, inl, inr, ℕ, Bool, true, false, List, Option, Some, None, Ok, Err}
use Rattle.std.specs.Prelude.{Result, IsUtf8}
use Rattle.std.specs.Str.{is_utf8}
use Rattle.std.proofs.lemmas.Bool.{false≢true}
use Rattle.std.proofs.lemmas.Str.{IsUtf8-from_is_utf8, is_utf8-from_IsUtf8}
use Rattle.toml.specs.Data.{Members}
use Rattle.toml.specs.Parse.{parse_document}
use Rattle.racp_model.specs.Terms.{Terms}
use Rattle.racp_prices.specs.Orders.{IsToml, IsOrderOrMemory, order_in, order_of}
use Rattle.racp_prices.specs.Laws.{TextIsRead}
use Rattle.racp_prices.specs.Steps.{Gives}
use Rattle.racp_prices.specs.declared.fault.OrderFault.{OrderFault}

pub read_from_table : (resources jobs : ℕ) (text : List ℕ) (table : Members) (answer : Result Terms OrderFault) → IsToml text (Some table) →
    Gives (λ terms. terms) answer (order_of resources jobs table) → IsOrderOrMemory resources jobs text answer
read_from_table resources jobs text table (Ok terms) toml read = (Some table, toml, sym read)
read_from_table resources jobs text table (Err fault) toml (inl e) = inr (toml.0, e)
read_from_table resources jobs text table (Err fault) toml (inr read) = inl (Some table, toml, sym read)

-- each text is this table as TOML, or none
toml_of : (text : List ℕ) → (table : Option Members) × IsToml text table
toml_of text = by_utf8 (is_utf8 text) refl
  where
    by_document : (table : Option Members) → parse_document text ≡ table → IsUtf8 text → (table : Option Members) × IsToml text table
    by_document (Some table) e utf8 = (Some table, (utf8, e))
    by_document None e utf8 = (None, λ _. e)

    by_utf8 : (b : Bool) → is_utf8 text ≡ b → (table : Option Members) × IsToml text table
    by_utf8 true e = by_document (parse_document text) refl (IsUtf8-from_is_utf8 text e)
    by_utf8 false e = (None, λ utf8. absurd (false≢true (sym e ∙ is_utf8-from_IsUtf8 text utf8)))

pub text_read : TextIsRead
text_read resources jobs text = let toml = toml_of text in (order_in resources jobs toml.0, (toml.0, toml.1, refl))
