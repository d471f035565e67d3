pub mod Refusals
pub mod Records
pub mod DocketRecords
pub mod ZoneRecords
pub mod Vouchers
