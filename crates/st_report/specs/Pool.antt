-- the report of a pool
use Rattle.std.specs.Prelude.{ℕ, List, [], ◌∷◌, codes, map, Option, Some, None}
use Rattle.serde_json.specs.Data.{Data, null, boolean, string, array, object, no_items, item, no_members, member}
use Rattle.serde_json.specs.View.{items_of}
use Rattle.st_units.specs.declared.rows.DevRow.{DevRow}
use Rattle.st_units.specs.declared.rows.Tier.{Tier}
use Rattle.st_units.specs.declared.rows.Tier.TheVariants.{DataTier, CacheTier}
use Rattle.st_model.specs.declared.info.CacheInfo.{CacheInfo}
use Rattle.st_model.specs.declared.info.FsInfo.{FsInfo}
use Rattle.st_model.specs.declared.info.PoolInfo.{PoolInfo}
use Rattle.st_model.specs.declared.reply.Identity.TheVariants.{Pool, Filesystem}
use Rattle.st_report.specs.Uuids.{uuid_text}
use Rattle.st_report.specs.Values.{count, count_or_null}

abbrev pub tier_text : Tier → List ℕ
tier_text DataTier = codes "data"
tier_text CacheTier = codes "cache"

-- a device: its path, its tier, its size in sectors
unfoldable pub device_data : DevRow → Data
device_data row = array (item (string row.path) (item (string (tier_text row.tier)) (item (count row.sectors) no_items)))

unfoldable pub cache_data : Option CacheInfo → Data
cache_data None = null
cache_data (Some cache) = object (
    member (codes "blocks") (count cache.blocks) (
    member (codes "hits") (count cache.hits) (
    member (codes "misses") (count cache.misses) (
    member (codes "used") (count cache.used) no_members))))

-- the UUID of the filesystem that this one is a snapshot of, in the same pool
unfoldable pub origin_data : ℕ → Option ℕ → Data
origin_data pool None = null
origin_data pool (Some serial) = string (uuid_text (Filesystem pool serial))

unfoldable pub filesystem_data : ℕ → FsInfo → Data
filesystem_data pool info = object (
    member (codes "limit") (count_or_null info.row.limit) (
    member (codes "mapped") (count info.mapped) (
    member (codes "merge") (boolean info.row.merge) (
    member (codes "name") (string info.row.name) (
    member (codes "origin") (origin_data pool info.row.origin) (
    member (codes "size") (count info.row.size) (
    member (codes "uuid") (string (uuid_text (Filesystem pool info.row.serial))) no_members)))))))

unfoldable pub devices_data : List DevRow → Data
devices_data rows = array (items_of (map device_data rows))

unfoldable pub filesystems_data : ℕ → List FsInfo → Data
filesystems_data pool infos = array (items_of (map (filesystem_data pool) infos))

unfoldable pub pool_data : PoolInfo → Data
pool_data info = object (
    member (codes "allocated") (count info.allocated) (
    member (codes "cache") (cache_data info.cache) (
    member (codes "devices") (devices_data info.devs) (
    member (codes "filesystems") (filesystems_data info.serial info.filesystems) (
    member (codes "fs_limit") (count info.fs_limit) (
    member (codes "name") (string info.name) (
    member (codes "overprovisioning") (boolean info.overprovisioning) (
    member (codes "room") (count info.room) (
    member (codes "used") (count info.used) (
    member (codes "uuid") (string (uuid_text (Pool info.serial))) no_members))))))))))

-- several pools, in the order in which they were asked for
unfoldable pub pools_data : List PoolInfo → Data
pools_data infos = array (items_of (map pool_data infos))
