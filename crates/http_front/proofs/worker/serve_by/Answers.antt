use Rattle.http_front.proofs.Answering.{weakened}
use Rattle.http_front.proofs.Fronts.{answers}
use Rattle.http_front.proofs.worker.serve_by.Goals as goal

pub returns : goal.returns
returns g c = record {
  written =
      weakened _ _ _ _ (λ head response gave. answers _ _ _ _ c.args.front head response gave)
      c.serve.result.io _ c.serve.ensures.written;
  same = c.serve.ensures.same;
}
