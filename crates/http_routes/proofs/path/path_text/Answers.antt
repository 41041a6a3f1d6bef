use Rattle.std.proofs.Common.{sym}
use Rattle.http_routes.proofs.PathLemmas.{text_there, no_text}
use Rattle.http_routes.proofs.path.path_text.Goals as goal

pub returns-in-Ok : goal.returns-in-Ok
returns-in-Ok c =
    let d = c.percent_decode.ensures.bytes in
    let a = c.as_bytes.ensures.value in
    rw (c.in-Ok.ensures.value, d, a) (sym (text_there _ (rw (d, a) at c.in-Ok.ensures.ok_only_if_utf8)))

pub returns-in-Err-Utf8 : goal.returns-in-Err-Utf8
returns-in-Err-Utf8 c =
    let d = c.percent_decode.ensures.bytes in
    let a = c.as_bytes.ensures.value in
    sym (no_text _ (λ text. let memory = c.in-Err-Utf8.ensures.utf8 (rw (d, a) text) in cc memory))
