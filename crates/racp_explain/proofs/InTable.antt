-- Each subject stands in the table of all.
use Rattle.std.proofs.Common.{refl, arith}
use Rattle.std.specs.Prelude.{Contains}
use Rattle.racp_sm.specs.declared.fault.SmFaultKind.{SmFaultKind}
use Rattle.racp_sm.specs.declared.fault.SmFaultKind.TheVariants as sm
use Rattle.racp_prices.specs.declared.fault.OrderFault.{OrderFault}
use Rattle.racp_prices.specs.declared.fault.OrderFault.TheVariants as prices
use Rattle.racp_plan.specs.declared.text_fault.TextFaultKind.{TextFaultKind}
use Rattle.racp_plan.specs.declared.text_fault.TextFaultKind.TheVariants as texts
use Rattle.racp_explain.specs.declared.subjects.TheConstants.{SUBJECTS}
use Rattle.racp_explain.specs.declared.subject.Line as lines
use Rattle.racp_explain.specs.declared.subject.Line.TheVariants as variants
use Rattle.racp_explain.specs.declared.subject.Subject.{Subject}
use Rattle.racp_explain.specs.declared.subject.Subject.TheVariants.{Sm, Order, Plan, Names, NamesCount, Curve, CurveSteps, Changes, ChangesPlan, Line}

of_network : (x : SmFaultKind) → Contains SUBJECTS (Sm x)
of_network sm.NoJobs = (0, omega arith, refl)
of_network sm.NoRenewable = (1, omega arith, refl)
of_network sm.ManyProjects = (2, omega arith, refl)
of_network sm.OtherResources = (3, omega arith, refl)
of_network sm.NoPrecedence = (4, omega arith, refl)
of_network sm.NoRequests = (5, omega arith, refl)
of_network sm.BadNumber = (6, omega arith, refl)
of_network sm.Limit = (7, omega arith, refl)
of_network sm.BadRow = (8, omega arith, refl)
of_network sm.NotSingleMode = (9, omega arith, refl)
of_network sm.BadSuccessor = (10, omega arith, refl)
of_network sm.TooFew = (11, omega arith, refl)
of_network sm.TooMany = (12, omega arith, refl)
of_network sm.Cycle = (13, omega arith, refl)
of_network sm.Memory = (14, omega arith, refl)

of_order : (x : OrderFault) → Contains SUBJECTS (Order x)
of_order prices.NotToml = (15, omega arith, refl)
of_order prices.Missing = (16, omega arith, refl)
of_order prices.Unknown = (17, omega arith, refl)
of_order prices.NotWhole = (18, omega arith, refl)
of_order prices.Range = (19, omega arith, refl)
of_order prices.Count = (20, omega arith, refl)
of_order prices.Memory = (21, omega arith, refl)
of_order prices.Version = (22, omega arith, refl)

of_plan : (x : TextFaultKind) → Contains SUBJECTS (Plan x)
of_plan texts.Syntax = (23, omega arith, refl)
of_plan texts.Range = (24, omega arith, refl)
of_plan texts.Memory = (25, omega arith, refl)

of_line : (x : lines.Line) → Contains SUBJECTS (Line x)
of_line variants.TooLate = (32, omega arith, refl)
of_line variants.Due = (33, omega arith, refl)
of_line variants.NoRoom = (34, omega arith, refl)
of_line variants.Stopped = (35, omega arith, refl)
of_line variants.Head = (36, omega arith, refl)
of_line variants.Cost = (37, omega arith, refl)
of_line variants.Late = (38, omega arith, refl)
of_line variants.Order = (39, omega arith, refl)
of_line variants.Over = (40, omega arith, refl)
of_line variants.Ceiling = (41, omega arith, refl)
of_line variants.Early = (42, omega arith, refl)
of_line variants.Unproved = (43, omega arith, refl)
of_line variants.Read = (44, omega arith, refl)
of_line variants.Write = (45, omega arith, refl)
of_line variants.TooLong = (46, omega arith, refl)
of_line variants.NoThread = (47, omega arith, refl)
of_line variants.Memory = (48, omega arith, refl)

pub listed : (subject : Subject) → Contains SUBJECTS subject
listed (Sm kind) = of_network kind
listed (Order fault) = of_order fault
listed (Plan kind) = of_plan kind
listed Names = (26, omega arith, refl)
listed NamesCount = (27, omega arith, refl)
listed Curve = (28, omega arith, refl)
listed CurveSteps = (29, omega arith, refl)
listed Changes = (30, omega arith, refl)
listed ChangesPlan = (31, omega arith, refl)
listed (Line line) = of_line line
