use Rattle.std.proofs.Common.{refl}
use Rattle.real_outside.specs.declared.disk.device.DeviceCall.TheVariants as call
use Rattle.real_outside.proofs.Names.{SyncsOnce, asks_one}
use Rattle.real_outside.proofs.disk.moves.sync.Goals as goal

pub returns : goal.returns
returns g c =
    asks_one (SyncsOnce c.synced_answer.result) (g.V.Device.calls c.args.device.now) (g.V.Device.calls c.sync.new.self) (call.Sync c.sync.result) c.sync.ensures
    (c.sync.result, refl, c.synced_answer.ensures)
