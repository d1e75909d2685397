-- what calls give, as JSON
use Rattle.std.specs.Prelude.{ℕ, List, Bool, codes, map, Option, Some, None}
use Rattle.hex.specs.Hex.{encode_lower}
use Rattle.serde_json.specs.Data.{Data, null, boolean, string, array, no_items, item}
use Rattle.serde_json.specs.View.{items_of}
use Rattle.st_model.specs.declared.reply.Given.{Given}
use Rattle.st_model.specs.declared.reply.Given.TheVariants as gives
use Rattle.st_model.specs.declared.reply.Identity.{Identity}
use Rattle.st_model.specs.declared.reply.Identity.TheVariants.{Pool}
use Rattle.st_model.specs.declared.reply.NewFs.{NewFs}
use Rattle.st_report.specs.Reports.{report_data}
use Rattle.st_report.specs.Uuids.{uuid_text}
use Rattle.st_report.specs.Values.{count, texts}

abbrev pub pair : Data → Data → Data
pair first second = array (item first (item second no_items))

-- whether anything was changed, and what comes of it
abbrev pub told : Bool → Data → Data
told changed more = pair (boolean changed) more

unfoldable pub identity_data : Identity → Data
identity_data identity = string (uuid_text identity)

unfoldable pub identity_or_null : Option Identity → Data
identity_or_null None = null
identity_or_null (Some identity) = identity_data identity

-- a new pool and its devices
unfoldable pub created_data : Option (ℕ × List (List ℕ)) → Data
created_data None = null
created_data (Some made) = pair (identity_data (Pool made.0)) (texts made.1)

unfoldable pub new_filesystem : NewFs → Data
new_filesystem fs = pair (string fs.name) (identity_data fs.identity)

unfoldable pub new_filesystems : List NewFs → Data
new_filesystems list = array (items_of (map new_filesystem list))

unfoldable pub identities_data : List Identity → Data
identities_data list = array (items_of (map identity_data list))

unfoldable pub result_data : Option Given → Data
result_data None = null
result_data (Some (gives.Created changed made)) = told changed (created_data made)
result_data (Some (gives.Changed changed identity)) = told changed (identity_or_null identity)
result_data (Some (gives.Added changed paths)) = told changed (texts paths)
result_data (Some (gives.CreatedFilesystems changed list)) = told changed (new_filesystems list)
result_data (Some (gives.DestroyedFilesystems changed list)) = told changed (identities_data list)
result_data (Some (gives.Done changed)) = told changed null
result_data (Some (gives.Written sectors)) = told Bool.true (count sectors)
result_data (Some (gives.Read bytes)) = string (encode_lower bytes)
result_data (Some (gives.Checked changed added grown)) = told changed (pair (count added) (count grown))
result_data (Some (gives.Pool info)) = report_data (Some (gives.Pool info))
result_data (Some (gives.Pools infos)) = report_data (Some (gives.Pools infos))
result_data (Some (gives.Engine table infos)) = report_data (Some (gives.Engine table infos))
result_data (Some gives.Accepted) = string (codes "accepted")
