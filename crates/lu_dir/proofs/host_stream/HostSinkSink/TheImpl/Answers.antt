use Rattle.std.proofs.Common.{refl}
use Rattle.std.proofs.lemmas.Result.{IfOk-weaker, IfErr-weaker}
use Rattle.lu_dir.proofs.host_stream.HostSinkSink.TheImpl.Goals as goal

pub write-tells : goal.write-tells
write-tells g c = record {
  within = c.ensures.within;
  some = c.ensures.some;
  taken = IfOk-weaker c.result _ _ (λ _ _. refl) c.ensures.within;
  untaken = IfErr-weaker c.result _ _ (λ _ _. refl) c.ensures.answer;
  cause = c.ensures.cause;
}
