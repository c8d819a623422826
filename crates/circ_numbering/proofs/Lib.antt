mod Requests
mod Walks
mod Reasons
mod Chains
