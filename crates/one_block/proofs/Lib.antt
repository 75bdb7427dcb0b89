pub mod MoreRecords
