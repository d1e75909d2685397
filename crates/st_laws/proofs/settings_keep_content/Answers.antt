use Rattle.st_laws.proofs.Engine.{settings-keep-content}
use Rattle.st_laws.proofs.settings_keep_content.Goals as goal

pub returns : goal.returns
returns c = settings-keep-content
