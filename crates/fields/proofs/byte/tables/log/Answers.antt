use Rattle.fields.specs.ByteTables.{logs_are}
use Rattle.fields.proofs.byte.tables.log.Goals as goal

pub returns : goal.returns
returns c = logs_are c.args.x c.ranges.x.fits
