-- The input of a reply (`Gist`), as the definitions see it.
use Rattle.std.specs.Prelude.{Some}
use Rattle.call_types.specs.declared.call.Call.{Call}
use Rattle.call_types.specs.declared.call.Call.TheVariants.{Invoke}
use Rattle.call_model.specs.Isolation.{Gist as GistOfTicket}
use Rattle.call_types.specs.Within.{IsTrace}
use Rattle.replies.specs.declared.gist.Gist.{Gist}

-- The gist of an answered ticket.
abbrev pub gist_of : Gist → GistOfTicket
gist_of g = record {
  answer = Some g.answer;
  call = g.call.now;
  count = g.count;
  source = g.source.now;
  source_count = g.source_count;
}

-- A call without a trace, or with one of 1 to 256 printable characters. This holds for each call that a script can
-- make, and for each expiry.
abbrev pub IsTraced : Call → Type 0
IsTraced (Invoke f qualified trace body) = IsTrace trace
IsTraced _ = Unit {0}
