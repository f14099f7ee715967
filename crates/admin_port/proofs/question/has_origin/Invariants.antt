use Rattle.std.proofs.Common.{◌≡◌, false, take}
use Rattle.std.specs.List.{list_any}
use Rattle.httparse.specs.Spans.{span_bytes}
use Rattle.admin_port.specs.Question.{is_origin}
use Rattle.admin_port.proofs.question.has_origin.Given as goal

-- none so far tells of a page
abbrev pub invariant-loop-span : goal.invariant-loop-span
invariant-loop-span l = list_any (λ s. is_origin (span_bytes l.head s.name)) (take l.span-index l.spans) ≡ false
