-- Writing calls among events: `Verdicts`, of the tests; `Messages`, of a call's messages up to the refused one; `Calls`, of one call; `Happenings`, the
-- theorems; `ByIndex`, the same by any index.
pub mod Verdicts
pub mod Messages
pub mod Calls
pub mod Happenings
pub mod ByIndex
